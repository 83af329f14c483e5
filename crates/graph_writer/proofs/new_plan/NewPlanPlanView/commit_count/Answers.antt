use Rattle.std.proofs.Common.{sym, ◌∙◌}
use Rattle.graph_writer.proofs.plans.PlanOfSteps.{planned-count}
use Rattle.graph_writer.proofs.new_plan.NewPlanPlanView.commit_count.Goals as goal

pub returns : goal.returns
returns g c = c.len.ensures ∙ c.args.self.now.new.now.order.ok.0 ∙ sym (planned-count c.args.self.now)
