use Rattle.graph_history.proofs.LowestLemmas.{lowest_right}
use Rattle.graph_history.proofs.law.lowest.the_lowest_layers_of_a_right_graph_are_right.Goals as goal

pub returns : goal.returns
returns c = λ options layers n opened fits right. lowest_right options layers n opened fits right
