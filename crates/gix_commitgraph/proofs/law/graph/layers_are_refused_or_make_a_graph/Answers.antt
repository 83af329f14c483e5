use Rattle.gix_commitgraph.proofs.layers.GraphLemmas.{judged}
use Rattle.gix_commitgraph.proofs.law.graph.layers_are_refused_or_make_a_graph.Goals as goal

pub returns : goal.returns
returns c = judged
