use Rattle.std.proofs.Common.{◌≡◌, ◌≢◌, ◌<◌, ℕ}
use Rattle.commit_search.specs.HashTable.{looked_at}
use Rattle.commit_search.proofs.hash_table.put.Given as goal

-- no slot was empty so far
abbrev pub invariant-loop-step : goal.invariant-loop-step
invariant-loop-step l = record {
  same : l.table.items ≡ l.fn.table.items;
  before : (k : ℕ) → k < l.step → looked_at l.fn.table.items l.number k ≢ 0;
}
