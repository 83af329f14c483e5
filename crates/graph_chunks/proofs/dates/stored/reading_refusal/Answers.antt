use Rattle.std.proofs.Common.{◌+◌, ◌<◌, ◌^◌, length, sym, ap, ◌∙◌, arith}
use Rattle.graph_format.specs.Layer.{Layer}
use Rattle.graph_chunks.specs.GraphStoredDates.{layer_dates_refusal}
use Rattle.graph_chunks.proofs.StoredDateLemmas.{layer-fits, layer-next, reading-fine}
use Rattle.graph_chunks.proofs.dates.stored.reading_refusal.Goals as goal
use Rattle.graph_chunks.proofs.dates.stored.reading_refusal.Goals.{After-refusal_of_layer}

-- the commits up to the end of this layer are few
fits : (c : After-refusal_of_layer) → c.loop-layer.before + c.num_commits-commits-in-loop-layer.result < 2 ^ 32
fits c =
    let few =
    layer-fits c.args.graph.now c.layers-layers.result.now c.loop-layer.layer c.loop-layer.before c.index-layers-layer.result
    c.num_commits-commits.ensures.graph c.layers-layers.ensures.same
    (omega (arith, c.loop-layer-test.true, c.loop-layer.auto.layer-end))
    c.loop-layer.invariant.counted in
    omega (arith, few, c.num_commits-commits-in-loop-layer.ensures.ids, ap (λ (l : Layer). length l.ids) c.index-layers-layer.is)

pub in_graph-requires-clause-fits : goal.in_graph-requires-clause-fits
in_graph-requires-clause-fits c = fits (goal.at.in_graph-requires-clause-fits c).After-refusal_of_layer

pub overflow_add-before : goal.overflow_add-before
overflow_add-before c = omega (arith, fits (goal.at.overflow_add-before c).After-refusal_of_layer)

pub loop-layer-preserved : goal.loop-layer-preserved
loop-layer-preserved c =
    let layers = c.layers-layers.result.now in
    let within : c.loop-layer.layer < length layers = omega (arith, c.loop-layer-test.true, c.loop-layer.auto.layer-end) in
    let next =
    layer-next layers c.loop-layer.layer c.loop-layer.before c.index-layers-layer.result within c.loop-layer.invariant.counted in
    record {
      read = reading-fine layers c.loop-layer.layer c.index-layers-layer-in-loop-layer.result c.loop-layer.invariant.read within
          (ap layer_dates_refusal (sym c.index-layers-layer-in-loop-layer.is) ∙ sym c.in_default.ensures.refusal);
      counted = omega (
        arith,
        next,
        c.num_commits-commits-in-loop-layer.ensures.ids,
        ap (λ (l : Layer). length l.ids) c.index-layers-layer.is,
      );
    }
