use Rattle.graph_writer.proofs.plans.UniqueSteps.{say-the-same}
use Rattle.graph_writer.proofs.law.a_layer_has_one_plan.Goals as goal

pub returns : goal.returns
returns c = say-the-same
