use Rattle.graph_encoder.proofs.LaidOut.{laid-out}
use Rattle.graph_encoder.proofs.law.planned_files_are_in_git_layout.Goals as goal

pub returns : goal.returns
returns c = laid-out
