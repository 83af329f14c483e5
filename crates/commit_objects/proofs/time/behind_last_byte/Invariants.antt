use Rattle.std.proofs.Common.{◌≡◌, ◌++◌, ◌∷◌, ℕ, List, length}
use Rattle.commit_objects.proofs.time.behind_last_byte.Given as goal

abbrev pub invariant-loop-next : goal.invariant-loop-next
invariant-loop-next l = (front : List ℕ) × (l.bytes ≡ front ++ l.value ∷ l.rest)

abbrev pub decreases-loop-next : goal.decreases-loop-next
decreases-loop-next l = length l.rest
