use Rattle.graph_encoder.proofs.PlannedLayer.{planned_file-read}
use Rattle.graph_encoder.proofs.law.planned_files_say_their_plans.Goals as goal

pub returns : goal.returns
returns c = λ path. planned_file-read c.args.plan.now path c.requires.plan c.requires.bytes
