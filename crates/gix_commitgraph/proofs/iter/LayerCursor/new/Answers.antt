use Rattle.std.proofs.Common.{◌∙◌, arith}
use Rattle.gix_commitgraph.proofs.layers.PositionLemmas.{all-places, length-all_places}
use Rattle.gix_commitgraph.proofs.iter.LayerCursor.new.Goals as goal

pub invariant_of-result : goal.invariant_of-result
invariant_of-result c = record {
  within = omega arith;
  counted = c.num_commits.ensures.commits
      ∙ length-all_places c.args.graph.now c.graph.inside.files.items c.deref.result.now c.index.result.now
      c.graph.invariant.graph.makes.some c.graph.view_is c.deref.ensures.value c.index.ensures;
}

pub returns : goal.returns
returns c =
    all-places c.args.graph.now c.graph.inside.files.items c.deref.result.now c.index.result.now
    c.graph.invariant.graph.makes.some c.graph.view_is c.deref.ensures.value c.index.ensures
