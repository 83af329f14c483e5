use Rattle.std.proofs.Common.{◌≡◌, ℕ, ◌<◌, false, length, get_or}
use Rattle.graph_levels.specs.declared.level.State.TheVariants.{Unseen}
use Rattle.graph_levels.specs.SearchStates.{is_unseen}
use Rattle.graph_levels.specs.Searching.{IsUnderWay}
use Rattle.graph_levels.proofs.search.levels.Given as goal

abbrev pub invariant-loop-commit : goal.invariant-loop-commit
invariant-loop-commit l = record {
  going : IsUnderWay l.search;
  below : l.search.below.now ≡ l.fn.below;
  parents : l.search.parents.now ≡ l.fn.parents;
  times : l.search.times.now ≡ l.fn.times;
  empty : length l.search.stack.items ≡ 0;
  seen : (i : ℕ) → i < l.commit → is_unseen (get_or l.search.states.items i Unseen) ≡ false;
}
