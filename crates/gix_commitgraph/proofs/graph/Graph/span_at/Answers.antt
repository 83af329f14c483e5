use Rattle.std.proofs.Common.{◌≡◌, Some, length, slice_get, ap, subst, arith}
use Rattle.gix_commitgraph.specs.Graph.{start, IsGraph}
use Rattle.gix_commitgraph.proofs.layers.LayerListLemmas.{start-more, counted-fits}
use Rattle.gix_commitgraph.proofs.layers.LayerStartLemmas.{start-kept, layer-kept}
use Rattle.gix_commitgraph.proofs.graph.Graph.span_at.Goals as goal

pub index-start-requires : goal.index-start-requires
index-start-requires c = omega (arith, c.requires.layer, c.self.invariant.counted.one_each, ap length c.self.view_is)

-- the layer is the one of this number
layer-there : (c : goal.After-num_commits) → slice_get c.args.self.now c.args.layer ≡ Some c.index-file.result.now
layer-there c =
    layer-kept c.args.self.now c.self.inside.files.items c.args.layer c.index-file.result.now c.self.view_is c.requires.layer
    c.index-file.ensures

-- and it starts where the graph keeps it
start-at : (c : goal.After-num_commits) → c.index-start.result.now ≡ start c.args.self.now c.args.layer
start-at c =
    start-kept c.args.self.now c.self.inside.files.items c.self.inside.starts.items c.args.layer c.index-start.result.now
    c.self.view_is c.self.invariant c.requires.layer c.index-start.ensures

pub overflow_add-result : goal.overflow_add-result
overflow_add-result c =
    omega (
      arith,
      c.num_commits.ensures.ids,
      counted-fits c.args.self.now c.args.layer c.index-start.result.now c.index-file.result.now
          (subst IsGraph c.self.view_is c.self.invariant.graph) (start-at c) (layer-there c),
    )

pub returns-clause-span : goal.returns-clause-span
returns-clause-span c = record {
  graph = subst IsGraph c.self.view_is c.self.invariant.graph;
  there = layer-there c;
  start = start-at c;
  stop = omega (
    arith,
    start-at c,
    c.num_commits.ensures.ids,
    start-more c.args.self.now c.args.layer c.index-file.result.now (layer-there c),
  );
  distinct = c.requires.distinct;
}
