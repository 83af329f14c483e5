use Rattle.std.proofs.Common.{arith}
use Rattle.graph_encoder.specs.Written.{ids_of}
use Rattle.graph_encoder.proofs.FanSteps.{sums-start, sum_is, sums-more, sums-all, ids_up_to-small}
use Rattle.graph_encoder.proofs.fan.fan_of.Goals as goal

pub loop-byte-init : goal.loop-byte-init
loop-byte-init g c =
    let commits = (g.P.PlanView.as_plan c.args.plan.now).commits.items in
    sums-start c.first_bytes-fan.result (ids_of commits) (omega arith) c.first_bytes-fan.ensures.counted

pub overflow_add-fan : goal.overflow_add-fan
overflow_add-fan g c =
    let commits = (g.P.PlanView.as_plan c.args.plan.now).commits.items in
    omega (
      arith,
      sum_is c.loop-byte.fan (ids_of commits) c.loop-byte.byte c.loop-byte.invariant c.loop-byte.auto.byte
          c.loop-byte-test.true,
      ids_up_to-small c.loop-byte.byte commits,
      c.requires,
    )

pub loop-byte-preserved : goal.loop-byte-preserved
loop-byte-preserved g c =
    let commits = (g.P.PlanView.as_plan c.args.plan.now).commits.items in
    sums-more c.loop-byte.fan (ids_of commits) c.loop-byte.byte _ c.loop-byte.invariant c.loop-byte-test.true
    (sum_is c.loop-byte.fan (ids_of commits) c.loop-byte.byte c.loop-byte.invariant c.loop-byte.auto.byte
    c.loop-byte-test.true)

pub returns-clause-fan : goal.returns-clause-fan
returns-clause-fan g c =
    let commits = (g.P.PlanView.as_plan c.args.plan.now).commits.items in
    sums-all c.loop-byte.fan (ids_of commits) c.loop-byte.byte c.loop-byte.invariant c.loop-byte-test.false
