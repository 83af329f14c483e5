use Rattle.std.proofs.Common.{◌≡◌, ◌*◌, length}
use Rattle.commit_search.proofs.MarkLemmas.{AreLeft}
use Rattle.commit_search.proofs.bits.BitMarksMarks.clear.Given as goal

abbrev pub invariant-loop-marked : goal.invariant-loop-marked
invariant-loop-marked l = record {
  bound : 64 * length l.self-inside.bits.items ≡ l.fn.self.bound;
  left : AreLeft l.self-inside.bits.items l.self-inside.marked.items;
}

abbrev pub decreases-loop-marked : goal.decreases-loop-marked
decreases-loop-marked l = length l.self-inside.marked.items
