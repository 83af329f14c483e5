use Rattle.std.proofs.Common.{◌≡◌, ◌∙◌, ◌+◌, List, Some, ap, arith, length, refl, slice_get, sym}
use Rattle.std.proofs.lemmas.Option.{slice_get_read}
use Rattle.graph_format.specs.Layer.{Layer}
use Rattle.gix_commitgraph.proofs.layers.LayerListLemmas.{start-fits, start-more, start-none}
use Rattle.c_opening.proofs.Called.{start-min}
use Rattle.c_opening.proofs.check.commits_below.Goals as goal

pub loop-below-init : goal.loop-below-init
loop-below-init c = sym (start-none _)

pub overflow_add-commits : goal.overflow_add-commits
overflow_add-commits c =
    let layers = c.args.graph.now in
    let files = c.layers-files.result.now in
    let at = c.loop-below.below in
    let layer = c.index-files-below.result in
    let read : slice_get files at ≡ Some layer =
    slice_get_read files (length files) at layer refl (omega arith) c.index-files-below.is in
    let here : slice_get layers at ≡ Some layer =
    ap (λ (l : List Layer). slice_get l at) (sym c.layers-files.ensures.same) ∙ read in
    omega (
      arith,
      c.loop-below.invariant,
      c.num_commits-commits.ensures.ids,
      start-more layers at layer here,
      start-fits layers (at + 1),
      c.layers-files.ensures.graph.makes.few,
    )

pub loop-below-preserved : goal.loop-below-preserved
loop-below-preserved c =
    let layers = c.args.graph.now in
    let files = c.layers-files.result.now in
    let at = c.loop-below.below in
    let layer = c.index-files-below.result in
    let read : slice_get files at ≡ Some layer =
    slice_get_read files (length files) at layer refl (omega arith) c.index-files-below.is in
    let here : slice_get layers at ≡ Some layer =
    ap (λ (l : List Layer). slice_get l at) (sym c.layers-files.ensures.same) ∙ read in
    omega (arith, c.loop-below.invariant, c.num_commits-commits.ensures.ids, start-more layers at layer here)

pub returns : goal.returns
returns c =
    let files = c.layers-files.result.now in
    c.loop-below.invariant
    ∙ start-min c.args.graph.now c.args.layer c.loop-below.below
    (omega (arith, c.min-below-end.ensures, c.loop-below-test.false, ap length c.layers-files.ensures.same))
