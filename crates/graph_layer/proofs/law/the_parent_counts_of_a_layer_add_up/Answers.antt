use Rattle.graph_layer.proofs.LayerCountLemmas.{layer_counts_add_up}
use Rattle.graph_layer.proofs.law.the_parent_counts_of_a_layer_add_up.Goals as goal

pub returns : goal.returns
returns c = λ layer. layer_counts_add_up layer _ c.len-count.ensures.unique
