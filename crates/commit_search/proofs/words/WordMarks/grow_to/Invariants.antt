use Rattle.std.proofs.Common.{◌≡◌, ℕ, ◌+◌, ◌-◌, length}
use Rattle.commit_search.specs.Marks.{marked_at}
use Rattle.commit_search.proofs.words.WordMarks.grow_to.Given as goal

abbrev pub invariant-loop-self : goal.invariant-loop-self
invariant-loop-self l = (i : ℕ) → marked_at l.self.layers.items i ≡ marked_at l.initial.self.layers.items i

abbrev pub decreases-loop-self : goal.decreases-loop-self
decreases-loop-self l = (l.layer + 1) - length l.self.layers.items
