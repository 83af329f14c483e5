use Rattle.graph_encoder.specs.Written.{ids_of}
use Rattle.graph_encoder.proofs.FanSteps.{AreSums}
use Rattle.graph_encoder.proofs.fan.fan_of.Given as goal

-- the sums below this byte, and the counts from it on
abbrev pub invariant-loop-byte : goal.invariant-loop-byte
invariant-loop-byte g l = AreSums l.fan (ids_of (g.P.PlanView.as_plan l.plan).commits.items) l.byte
