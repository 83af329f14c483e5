use Rattle.gix_commitgraph.proofs.layers.GraphLemmas.{counted}
use Rattle.gix_commitgraph.proofs.law.graph.the_commits_of_layers_add_up.Goals as goal

pub returns : goal.returns
returns c = counted
