use Rattle.gix_commitgraph.proofs.layers.GraphLemmas.{commit-lies}
use Rattle.gix_commitgraph.proofs.law.graph.a_commit_lies_in_its_layer.Goals as goal

pub returns : goal.returns
returns c = commit-lies
