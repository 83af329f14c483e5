use Rattle.gix_commitgraph.proofs.layers.GraphLemmas.{place-in}
use Rattle.gix_commitgraph.proofs.law.graph.a_position_is_a_place_in_its_layer.Goals as goal

pub returns : goal.returns
returns c = place-in
