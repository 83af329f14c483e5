use Rattle.std.proofs.Common.{◌≡◌, ◌<◌, ◌+◌, ◌&&◌, Bool, true, false, List, [], ◌∷◌, ◌++◌, Option, Some, None, length, slice_get}
use Rattle.std.proofs.Common.{refl, sym, ap, subst, ◌∙◌, arith, inl, inr}
use Rattle.std.specs.Option.{option_or}
use Rattle.std.specs.Result.{is_ok}
use Rattle.gix_chunk_core.proofs.FirstFaultLemmas.{first_below-none, first_below-none_more}
use Rattle.graph_format.specs.Layer.{Layer}
use Rattle.gix_commitgraph.proofs.layers.LayerListLemmas.{start-none, start-more, counted-fits}
use Rattle.gix_commitgraph.proofs.layers.LayerStartLemmas.{layer-kept}
use Rattle.graph_chunks.specs.GraphFilters.{filters_fault, settings_of, settings_in, graph_filters_refusal}
use Rattle.graph_chunks.specs.KeptFilters.{AreKept}
use Rattle.graph_chunks.specs.declared.filters.FilterSettings.{FilterSettings}
use Rattle.graph_chunks.specs.declared.filters.LayerFilters.{LayerFilters}
use Rattle.graph_chunks.proofs.GraphFilterLemmas.{length-filters, settings-empty, kept-none, kept-more, kept-by, fault-at}
use Rattle.graph_chunks.proofs.GraphFilterLemmas.{settings-more, not-refused, refused}
use Rattle.graph_chunks.proofs.filters.GraphFilters.of_graph.Goals as goal
use Rattle.graph_chunks.proofs.filters.GraphFilters.of_graph.Goals.{After-index-layers-layer, After-loop-layer}

pub loop-layer-init : goal.loop-layer-init
loop-layer-init c = record {
  counted = sym (start-none c.args.graph.now);
  lowest = settings-empty;
  read = first_below-none (filters_fault c.args.graph.now);
  kept = λ all. rw c.new-layers.ensures.items (kept-none c.args.graph.now (settings_of c.args.graph.now));
}

-- there is a layer of this number
within : (c : After-index-layers-layer) → c.loop-layer.layer < length c.args.graph.now
within c =
    omega (
      arith,
      c.loop-layer-test.true,
      c.loop-layer.auto.layer-end,
      ap (λ (ls : List Layer). length ls) c.layers-layer-end.ensures.same,
    )

layer-there : (c : After-index-layers-layer)
    → slice_get c.args.graph.now c.loop-layer.layer ≡ Some c.index-layers-layer.result
layer-there c =
    layer-kept c.args.graph.now c.layers.result.now c.loop-layer.layer c.index-layers-layer.result c.layers.ensures.same
    (within c) c.index-layers-layer.is

pub read_layer-requires : goal.read_layer-requires
read_layer-requires c =
    let layers = c.args.graph.now in
    let here = layer-there (goal.at.read_layer-requires c).After-index-layers-layer in
    record {
      fits = counted-fits layers c.loop-layer.layer c.loop-layer.before c.index-layers-layer.result c.layers.ensures.graph
          c.loop-layer.invariant.counted here;
    }

pub returns-in-Err-clause-refusal : goal.returns-in-Err-clause-refusal
returns-in-Err-clause-refusal c =
    let layers = c.args.graph.now in
    let here = layer-there (goal.at.returns-in-Err-clause-refusal c).After-index-layers-layer in
    inl
    (refused layers c.loop-layer.layer c.in-Err.error c.loop-layer.invariant.read
    (fault-at layers c.loop-layer.layer c.index-layers-layer.result c.loop-layer.before c.loop-layer.settings here
    c.loop-layer.invariant.counted c.loop-layer.invariant.lowest
    ∙ c.in-Err.ensures.refusal) (within (goal.at.returns-in-Err-clause-refusal c).After-index-layers-layer))

pub overflow_add-before : goal.overflow_add-before
overflow_add-before c =
    let layers = c.args.graph.now in
    let here = layer-there (goal.at.overflow_add-before c).After-index-layers-layer in
    omega (
      arith,
      c.num_commits-before.ensures.ids,
      counted-fits layers c.loop-layer.layer c.loop-layer.before c.index-layers-layer.result c.layers.ensures.graph
          c.loop-layer.invariant.counted here,
    )

and_true : (a b : Bool) → a && b ≡ true → (a ≡ true) × (b ≡ true)
and_true true true h = (refl, refl)
and_true true false h = cc
and_true false b h = cc

pub loop-layer-preserved : goal.loop-layer-preserved
loop-layer-preserved c =
    let layers = c.args.graph.now in
    let i = c.loop-layer.layer in
    let layer = c.index-layers-layer.result in
    let here = layer-there (goal.at.loop-layer-preserved c).After-index-layers-layer in
    let kept : LayerFilters = record { before = c.in-Ok.kept.before; filters = c.in-Ok.kept.filters } in
    record {
      counted = omega (arith, c.loop-layer.invariant.counted, c.num_commits-before.ensures.ids, start-more layers i layer here);
      lowest = c.or-settings.ensures
          ∙ ap (option_or c.loop-layer.settings) (c.settings_by.ensures ∙ c.in-Ok.ensures.settings)
          ∙ ap (λ (o : Option FilterSettings). option_or o (settings_in layer)) c.loop-layer.invariant.lowest
          ∙ sym (settings-more layers i layer here);
      read = first_below-none_more (filters_fault layers) i c.loop-layer.invariant.read
          (fault-at layers i layer c.loop-layer.before c.loop-layer.settings here c.loop-layer.invariant.counted
          c.loop-layer.invariant.lowest
          ∙ c.in-Ok.ensures.refusal);
      kept = λ all.
          let both = and_true c.loop-layer.kept_all c.is_ok-kept_all.result all in
          let ok : is_ok c.push.result ≡ true = sym c.is_ok-kept_all.ensures.value ∙ both.1 in
          let items : c.push.new.self.items ≡ c.loop-layer.layers.items ++ kept ∷ [] = rw ok at c.push.ensures.items in
          subst (AreKept layers (settings_of layers) (i + 1)) (sym items)
          (kept-more layers (settings_of layers) i c.loop-layer.layers.items layer kept (c.loop-layer.invariant.kept both.0) here
          (kept-by layers i layer c.loop-layer.before c.loop-layer.settings kept here c.loop-layer.invariant.counted
          c.loop-layer.invariant.lowest c.in-Ok.ensures.kept));
    }

-- no layer is refused, once all were read
none-refused : (c : After-loop-layer) → graph_filters_refusal c.args.graph.now ≡ None
none-refused c =
    let all = ap (λ (ls : List Layer). length ls) c.layers-layer-end.ensures.same in
    not-refused c.args.graph.now c.loop-layer.layer c.loop-layer.invariant.read
    (omega (arith, c.loop-layer-test.false, c.loop-layer.auto.layer-end, all))
    (omega (arith, c.loop-layer.auto.layer-end, all))

pub returns-then-not-kept_all-clause-refusal : goal.returns-then-not-kept_all-clause-refusal
returns-then-not-kept_all-clause-refusal c =
    inr (refl, none-refused (goal.at.returns-then-not-kept_all-clause-refusal c).After-loop-layer)

pub returns-clause-accepted : goal.returns-clause-accepted
returns-clause-accepted c = none-refused (goal.at.returns-clause-accepted c).After-loop-layer

pub returns-clause-commits : goal.returns-clause-commits
returns-clause-commits c = length-filters c.args.graph.now
