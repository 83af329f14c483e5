use Rattle.gix_commitgraph.specs.Graph.{IsGraph}
use Rattle.gix_commitgraph.proofs.layers.LayerListLemmas.{graph-accepted}
use Rattle.gix_commitgraph.proofs.graph.Graph.new.Goals as goal

pub starts_of-requires : goal.starts_of-requires
starts_of-requires c =
    let graph : IsGraph c.args.files.items =
    rw c.deref.ensures.value at (graph-accepted _ c.in_ok-check.ensures.refusal c.in_ok-check.ensures.opened) in
    rw c.deref-2.ensures.value graph.makes.few

pub invariant_of-result : goal.invariant_of-result
invariant_of-result c = record {
  graph = rw c.deref.ensures.value at (graph-accepted _ c.in_ok-check.ensures.refusal c.in_ok-check.ensures.opened);
  counted = rw c.deref-2.ensures.value at (c.in-Ok.ensures);
}
