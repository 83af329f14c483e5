use Rattle.std.proofs.Common.{◌≢◌, ◌-◌, ◌<◌, ℕ, get_or}
use Rattle.commit_search.specs.HashTable.{looked_at}
use Rattle.commit_search.proofs.places.found.Given as goal

-- the number was not found so far
abbrev pub invariant-loop-step : goal.invariant-loop-step
invariant-loop-step l = (k : ℕ) → k < l.step → get_or l.numbers.items (looked_at l.table.items l.number k - 1) 0 ≢ l.number
