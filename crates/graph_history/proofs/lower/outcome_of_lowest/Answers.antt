use Rattle.std.proofs.Common.{◌≡◌, List, length, take, get_or, slice_get, Some, refl, sym, ap, subst, ◌∙◌, arith}
use Rattle.std.proofs.lemmas.Option.{slice_get_read}
use Rattle.graph_walks.specs.History.{Node}
use Rattle.graph_format.specs.Layer.{Layer}
use Rattle.graph_format.specs.StoredHistory.{history_of}
use Rattle.gix_commitgraph.proofs.lookup.DuplicateLemmas.{take-layer}
use Rattle.gix_commitgraph.proofs.sound.RightBelowLemmas.{history-none}
use Rattle.graph_history.specs.LowerStatistics.{AreLowerStatistics}
use Rattle.graph_history.proofs.LowerLemmas.{layers-more, lower-fits}
use Rattle.graph_history.proofs.lower.outcome_of_lowest.Goals as goal

pub loop-layer-init : goal.loop-layer-init
loop-layer-init c =
    subst (λ (nodes : List Node). AreLowerStatistics nodes c.new-statistics.result) (sym history-none) c.new-statistics.ensures

pub add_layer-requires-clause-few : goal.add_layer-requires-clause-few
add_layer-requires-clause-few c =
    let layers = c.args.graph.now in
    let at = c.loop-layer.layer in
    let file = c.index-files-layer.result in
    let is : file ≡ get_or layers at file =
    c.index-files-layer.is ∙ ap (λ (ls : List Layer). get_or ls at file) c.layers-files.ensures.same in
    let here : slice_get layers at ≡ Some file =
    slice_get_read layers (length layers) at file refl (omega (arith, c.loop-layer-test.true, c.requires.within)) is in
    (history_of (take at layers), c.loop-layer.invariant, lower-fits layers at file c.layers-files.ensures.graph here)

pub add_layer-requires-clause-decoded : goal.add_layer-requires-clause-decoded
add_layer-requires-clause-decoded c =
    let layers = c.args.graph.now in
    let at = c.loop-layer.layer in
    let file = c.index-files-layer.result in
    let is : file ≡ get_or layers at file =
    c.index-files-layer.is ∙ ap (λ (ls : List Layer). get_or ls at file) c.layers-files.ensures.same in
    let here : slice_get layers at ≡ Some file =
    slice_get_read layers (length layers) at file refl (omega (arith, c.loop-layer-test.true, c.requires.within)) is in
    (c.requires.sound.parents at file
    (take-layer layers c.args.layers at file c.requires.within (omega (arith, c.loop-layer-test.true)) here)).decoded

pub loop-layer-preserved : goal.loop-layer-preserved
loop-layer-preserved c =
    let layers = c.args.graph.now in
    let at = c.loop-layer.layer in
    let file = c.index-files-layer.result in
    let is : file ≡ get_or layers at file =
    c.index-files-layer.is ∙ ap (λ (ls : List Layer). get_or ls at file) c.layers-files.ensures.same in
    let here : slice_get layers at ≡ Some file =
    slice_get_read layers (length layers) at file refl (omega (arith, c.loop-layer-test.true, c.requires.within)) is in
    subst (λ (nodes : List Node). AreLowerStatistics nodes c.add_layer.new.self) (sym (layers-more layers at file here))
    (c.in_ok-add_layer.ensures (history_of (take at layers)) c.loop-layer.invariant)
