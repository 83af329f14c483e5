use Rattle.std.proofs.Common.{◌≢◌, ◌-◌, ◌<◌, ℕ}
use Rattle.commit_search.specs.HashTable.{looked_at}
use Rattle.commit_search.specs.Marks.{number_in}
use Rattle.commit_search.proofs.few.found.Given as goal

-- the number was not found so far
abbrev pub invariant-loop-step : goal.invariant-loop-step
invariant-loop-step l = (k : ℕ) → k < l.step → number_in l.marked.items (looked_at l.table.items l.number k - 1) ≢ l.number
