use Rattle.std.proofs.Common.{◌≡◌, ℕ, ◌<◌, length, get_or}
use Rattle.graph_levels.specs.declared.level.State.TheVariants.{Unseen, Done}
use Rattle.graph_levels.specs.OnTop.{no_level}
use Rattle.graph_levels.proofs.search.Search.found.Given as goal

abbrev pub invariant-loop-state : goal.invariant-loop-state
invariant-loop-state l = record {
  len : length l.own.items ≡ l.state-index;
  each : (i : ℕ) → i < l.state-index → get_or l.self.states.items i Unseen ≡ Done (get_or l.own.items i no_level);
}
