use Rattle.std.proofs.Common.{ℕ, ◌≤◌, ◌<◌, get_or}
use Rattle.graph_levels.specs.Searching.{HasLevel}
use Rattle.graph_levels.proofs.search.Search.next_pending.Given as goal

abbrev pub invariant-loop-index : goal.invariant-loop-index
invariant-loop-index l = (j : ℕ) → l.from ≤ j → j < l.index → HasLevel l.self (get_or l.parents j 0)
