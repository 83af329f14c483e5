use Rattle.std.proofs.Common.{◌≡◌, ◌⊎◌, ◌+◌, ◌-◌, ◌<◌, ◌≤◌, ℕ, length, Contains}
use Rattle.commit_search.proofs.ancestor.push_places.Given as goal

-- the places from the last one that was pushed up to the end are on the stack
abbrev pub invariant-loop-place : goal.invariant-loop-place
invariant-loop-place l = record {
  low : l.from ≤ l.place;
  old : (p : ℕ) → Contains l.fn.stack.items p → Contains l.stack.items p;
  new : (p : ℕ) → l.place ≤ p → p < l.end → Contains l.stack.items p;
  only : (p : ℕ) → Contains l.stack.items p → Contains l.fn.stack.items p ⊎ (p < l.end);
  len : length l.stack.items ≡ length l.fn.stack.items + (l.end - l.place);
}
