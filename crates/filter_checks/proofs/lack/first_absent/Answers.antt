use Rattle.std.proofs.Common.{arith}
use Rattle.filter_checks.proofs.AnswerLemmas.{absent_directory}
use Rattle.filter_checks.proofs.lack.first_absent.Goals as goal

pub returns-then-is_absent : goal.returns-then-is_absent
returns-then-is_absent c = (
  omega (arith, c.loop-len-test.true),
  absent_directory c.args.filters.now c.args.pos.0 c.args.path.now c.loop-len.len c.loop-len-test.true
      c.if-path-len-ne47.false (c.is_absent.ensures.absent c.if-is_absent.true) c.loop-len.invariant,
)
