use Rattle.filter_checks.proofs.AnswerLemmas.{ArePossibleBelow}
use Rattle.filter_checks.proofs.lack.first_absent.Given as goal

abbrev pub invariant-loop-len : goal.invariant-loop-len
invariant-loop-len l = ArePossibleBelow l.filters l.pos.0 l.path l.len
