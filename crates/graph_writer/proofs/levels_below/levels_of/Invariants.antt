use Rattle.std.proofs.Common.{◌≡◌, ℕ, [], Some, length, unwrap_or, slice_get}
use Rattle.graph_walks.specs.Dates.{number_at}
use Rattle.graph_walks.specs.History.{generation_at}
use Rattle.graph_format.specs.StoredHistory.{history_of}
use Rattle.graph_levels.specs.declared.level.Level.{Level}
use Rattle.graph_writer.proofs.levels_below.levels_of.Given as goal

abbrev pub invariant-loop-number : goal.invariant-loop-number
invariant-loop-number l = record {
  as_many : length l.levels.items ≡ l.number;
  each : (p : ℕ) (level : Level) → slice_get l.levels.items p ≡ Some level
      → (generation_at (history_of l.graph.layers) p ≡ level.generation) × (number_at (unwrap_or l.dates []) p ≡ level.date);
}
