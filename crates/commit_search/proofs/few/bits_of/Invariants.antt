use Rattle.std.proofs.Common.{◌≡◌, ◌+◌, ◌/◌, length, take}
use Rattle.commit_search.specs.Marks.{AreMarks}
use Rattle.commit_search.proofs.few.bits_of.Given as goal

abbrev pub invariant-loop-place : goal.invariant-loop-place
invariant-loop-place l = record {
  len : length l.bits.items ≡ l.bound / 64 + 1;
  marks : AreMarks l.bits.items (take l.place l.marked.items);
}
