use Rattle.gix_commitgraph.proofs.layers.GraphLemmas.{lies-in_one}
use Rattle.gix_commitgraph.proofs.law.graph.a_position_lies_in_one_layer.Goals as goal

pub returns : goal.returns
returns c = lies-in_one
