use Rattle.graph_format.specs.Parents.{second_parents}
use Rattle.graph_format.specs.StoredHistory.{history_of}
use Rattle.graph_layer.proofs.ParentCountLemmas.{second-few}
use Rattle.gix_commitgraph.proofs.layers.LayerSpanLemmas.{span-opened}
use Rattle.gix_commitgraph.proofs.check.EdgeListLemmas.{tallied_few}
use Rattle.gix_commitgraph.proofs.graph.Graph.gather_one.Goals as goal

pub with_parent-requires-clause-few : goal.with_parent-requires-clause-few
with_parent-requires-clause-few c =
    let second = c.parent_edges.result.1 in
    let edges = c.args.span.file.now.edges in
    tallied_few (history_of c.args.self.now) c.args.span.stop (second_parents second edges) c.after_first.result
    c.after_first.ensures (second-few second edges (span-opened c.args.self.now c.args.span c.requires.span).few_edges)
