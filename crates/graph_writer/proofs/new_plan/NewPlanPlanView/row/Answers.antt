use Rattle.std.proofs.Common.{arith}
use Rattle.graph_writer.proofs.plans.PlanOfSteps.{planned-count, row-there}
use Rattle.graph_writer.proofs.new_plan.NewPlanPlanView.row.Goals as goal

pub row_at-requires : goal.row_at-requires
row_at-requires g c = omega (arith, c.requires, planned-count c.args.self.now)

pub returns : goal.returns
returns g c =
    row-there c.args.self.now c.args.place c.row_at.result c.args.self.now.each
    (omega (arith, c.requires, planned-count c.args.self.now)) c.row_at.ensures
