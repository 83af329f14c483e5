use Rattle.std.proofs.Common.{◌∙◌, arith}
use Rattle.gix_commitgraph.proofs.layers.LayerSpanLemmas.{span-stop, span-total, span-commit, generation-in_graph}
use Rattle.gix_commitgraph.proofs.graph.Graph.generation_at.Goals as goal

pub commit_at-requires : goal.commit_at-requires
commit_at-requires c = omega (arith, c.requires.below, c.if-pos-span.true, span-stop c.args.self.now c.args.span c.requires.span)

pub commit_at-requires-else-pos-span : goal.commit_at-requires-else-pos-span
commit_at-requires-else-pos-span c = omega (arith, c.requires.below, span-total c.args.self.now c.args.span c.requires.span)

pub returns-then-pos-span : goal.returns-then-pos-span
returns-then-pos-span c =
    let here = span-commit c.args.self.now c.args.span c.commit_at.result c.args.pos.0 c.requires.span (record {
      layer = c.commit_at.ensures.layer;
      at = omega (arith, c.commit_at.ensures.pos, c.if-pos-span.true);
    }) in
    c.generation.ensures ∙ generation-in_graph c.args.self.now c.args.span c.commit_at.result c.args.pos.0 c.requires.span here

pub returns-else-pos-span : goal.returns-else-pos-span
returns-else-pos-span c =
    c.generation-else-pos-span.ensures
    ∙ generation-in_graph c.args.self.now c.args.span c.commit_at-else-pos-span.result c.args.pos.0 c.requires.span
    c.commit_at-else-pos-span.ensures
