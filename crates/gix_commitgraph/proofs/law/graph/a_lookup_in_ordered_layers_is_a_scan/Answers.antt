use Rattle.gix_commitgraph.proofs.layers.GraphLemmas.{scanned}
use Rattle.gix_commitgraph.proofs.law.graph.a_lookup_in_ordered_layers_is_a_scan.Goals as goal

pub returns : goal.returns
returns c = scanned
