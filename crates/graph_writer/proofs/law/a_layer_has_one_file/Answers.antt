use Rattle.graph_writer.proofs.plans.UniqueSteps.{one-file}
use Rattle.graph_writer.proofs.law.a_layer_has_one_file.Goals as goal

pub returns : goal.returns
returns c = one-file
