use Rattle.std.proofs.Common.{◌-◌, sym, ap, ◌∙◌, arith}
use Rattle.gix_commitgraph.proofs.layers.LayerStartLemmas.{place-kept, places-kept}
use Rattle.gix_commitgraph.proofs.layers.PositionLemmas.{length-places_kept, places-past}
use Rattle.gix_commitgraph.proofs.iter.LayerCursor.from.Goals as goal

pub returns-then-first-commits : goal.returns-then-first-commits
returns-then-first-commits c =
    c.at_end.ensures ∙ sym (places-past c.args.graph.now c.args.first.0 (omega (arith, c.num_commits-commits.ensures.commits)))

pub invariant_of-result-clause-within : goal.invariant_of-result-clause-within
invariant_of-result-clause-within c =
    let place = place-kept c.args.graph.now c.graph.inside.files.items c.graph.inside.starts.items c.args.first.0
    c.layer_of_counted-layer.result.0 c.index-2.result.now c.index.result.now c.graph.view_is c.graph.invariant
    c.layer_of_counted-layer.ensures.layer c.index-2.ensures c.index.ensures
    c.layer_of_counted-layer.ensures.from c.layer_of_counted-layer.ensures.below in
    omega (arith, place.within)

pub invariant_of-result-clause-counted : goal.invariant_of-result-clause-counted
invariant_of-result-clause-counted c =
    ap (λ n. n - c.args.first.0) c.num_commits-commits.ensures.commits
    ∙ length-places_kept c.args.graph.now _ c.args.first.0
    (places-kept c.args.graph.now c.graph.inside.files.items c.deref.result.now c.graph.inside.starts.items c.args.first.0
    c.layer_of_counted-layer.result.0 c.index-2.result.now c.index.result.now c.graph.view_is c.deref.ensures.value
    c.graph.invariant c.layer_of_counted-layer.ensures.layer c.index-2.ensures c.index.ensures
    c.layer_of_counted-layer.ensures.from c.layer_of_counted-layer.ensures.below)

pub returns : goal.returns
returns c =
    places-kept c.args.graph.now c.graph.inside.files.items c.deref.result.now c.graph.inside.starts.items c.args.first.0
    c.layer_of_counted-layer.result.0 c.index-2.result.now c.index.result.now c.graph.view_is c.deref.ensures.value
    c.graph.invariant c.layer_of_counted-layer.ensures.layer c.index-2.ensures c.index.ensures
    c.layer_of_counted-layer.ensures.from c.layer_of_counted-layer.ensures.below
