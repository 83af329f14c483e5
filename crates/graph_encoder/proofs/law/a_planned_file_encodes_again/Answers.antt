use Rattle.graph_encoder.proofs.SaidPlans.{encoded-again}
use Rattle.graph_encoder.proofs.law.a_planned_file_encodes_again.Goals as goal

pub returns : goal.returns
returns c = encoded-again
