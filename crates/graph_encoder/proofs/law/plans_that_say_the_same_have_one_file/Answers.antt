use Rattle.graph_encoder.proofs.SamePlans.{same-file}
use Rattle.graph_encoder.proofs.law.plans_that_say_the_same_have_one_file.Goals as goal

pub returns : goal.returns
returns c = same-file
