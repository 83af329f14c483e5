use Rattle.std.proofs.Common.{length, ap, arith}
use Rattle.graph_chunks.specs.GraphFilters.{FiltersOfGraph}
use Rattle.graph_chunks.proofs.GraphFilterLemmas.{is_found, length-filters}
use Rattle.graph_chunks.proofs.filters.GraphFilters.layer_of.Goals as goal

pub layer_of_counted-layer-requires : goal.layer_of_counted-layer-requires
layer_of_counted-layer-requires c =
    omega (
      arith,
      c.requires,
      ap (λ (all : FiltersOfGraph). length all.filters) c.self.view_is,
      length-filters c.self.inside.graph.now,
    )

pub overflow_sub-result : goal.overflow_sub-result
overflow_sub-result c =
    let found =
    is_found c.self.inside.graph.now c.args.self.now c.self.inside.settings c.self.inside.layers.items
    c.layer_of_counted-layer.result.0 c.args.pos.0 c.index-kept.result.now c.self.view_is c.self.invariant
    c.layer_of_counted-layer.ensures.layer c.layer_of_counted-layer.ensures.from c.layer_of_counted-layer.ensures.below
    c.index-kept.ensures in
    found.after

pub returns : goal.returns
returns c =
    let found =
    is_found c.self.inside.graph.now c.args.self.now c.self.inside.settings c.self.inside.layers.items
    c.layer_of_counted-layer.result.0 c.args.pos.0 c.index-kept.result.now c.self.view_is c.self.invariant
    c.layer_of_counted-layer.ensures.layer c.layer_of_counted-layer.ensures.from c.layer_of_counted-layer.ensures.below
    c.index-kept.ensures in
    found.at
