use Rattle.graph_encoder.proofs.GitLayout.{laid-again}
use Rattle.graph_encoder.proofs.law.a_file_in_git_layout_encodes_again.Goals as goal

pub returns : goal.returns
returns c = laid-again
