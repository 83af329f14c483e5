use Rattle.commit_objects.proofs.WrittenLemmas.{AgreesBelow}
use Rattle.commit_objects.proofs.written.are_digits_of.Given as goal

abbrev pub invariant-loop-i : goal.invariant-loop-i
invariant-loop-i g l = AgreesBelow l.text l.bytes l.i l.same
