use Rattle.std.proofs.Common.{◌≡◌, ℕ, ◌+◌, ◌-◌, true, false, Some, length, slice_get, refl, sym, ap, ◌∙◌, arith}
use Rattle.gix_chunk_core.specs.FirstFault.{first_below}
use Rattle.graph_format.specs.declared.error.GraphError.TheVariants.{HashMismatch}
use Rattle.std.proofs.lemmas.Option.{slice_get_read}
use Rattle.gix_chunk_core.proofs.FirstFaultLemmas.{first_below-none, first_below-none_more, first_below-found}
use Rattle.gix_commitgraph.specs.GraphRefusal.{mismatch_after, mismatch_refusal}
use Rattle.gix_commitgraph.proofs.layers.LayerListLemmas.{mismatch-is}
use Rattle.gix_commitgraph.proofs.init.check_kinds.Goals as goal

pub loop-below-init : goal.loop-below-init
loop-below-init c = first_below-none (mismatch_after c.args.files.now)

pub returns-then-ne : goal.returns-then-ne
unfolding mismatch_refusal
returns-then-ne c =
    let files = c.args.files.now in
    let at = c.loop-below.below in
    let layer = c.index-files-below.result in
    let next = c.index-files-below-in-loop-below.result in
    let here : slice_get files at ≡ Some layer =
    slice_get_read files (length files) at layer refl (omega arith) c.index-files-below.is in
    let there : slice_get files (at + 1) ≡ Some next =
    slice_get_read files (length files) (at + 1) next refl (omega arith) c.index-files-below-in-loop-below.is in
    first_below-found (mismatch_after files) at (length files - 1) (HashMismatch (at + 1)) c.loop-below.invariant
    (mismatch-is files at layer next _ _ true here there c.object_hash.ensures c.object_hash-in-loop-below.ensures
    (sym c.if-ne.true ∙ c.ne.ensures))
    c.loop-below-test.true
    ∙ ap (λ (layer : ℕ). Some (HashMismatch layer)) (omega arith)

pub loop-below-preserved : goal.loop-below-preserved
loop-below-preserved c =
    let files = c.args.files.now in
    let at = c.loop-below.below in
    let layer = c.index-files-below.result in
    let next = c.index-files-below-in-loop-below.result in
    let here : slice_get files at ≡ Some layer =
    slice_get_read files (length files) at layer refl (omega arith) c.index-files-below.is in
    let there : slice_get files (at + 1) ≡ Some next =
    slice_get_read files (length files) (at + 1) next refl (omega arith) c.index-files-below-in-loop-below.is in
    first_below-none_more (mismatch_after files) at c.loop-below.invariant
    (mismatch-is files at layer next _ _ false here there c.object_hash.ensures c.object_hash-in-loop-below.ensures
    (sym c.if-ne.false ∙ c.ne.ensures))

pub returns : goal.returns
unfolding mismatch_refusal
returns c = ap (first_below (mismatch_after c.args.files.now)) (omega arith) ∙ c.loop-below.invariant
