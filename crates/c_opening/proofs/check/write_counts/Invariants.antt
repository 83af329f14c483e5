-- The entries so far are told in the room.
use Rattle.std.proofs.Common.{◌≡◌, length, map, min}
use Rattle.std.specs.Map.Iter.{deref_pair}
use Rattle.c_opening.specs.Answers.{written}
use Rattle.c_opening.specs.Verdict.{told_count}
use Rattle.c_opening.proofs.check.write_counts.Given as goal

abbrev pub invariant-loop-parents : goal.invariant-loop-parents
invariant-loop-parents l = record {
  room : l.out ≡ written (map told_count (map deref_pair l.yielded)) l.initial.out;
  place : l.place ≡ min (length l.yielded) (length l.initial.out);
}
