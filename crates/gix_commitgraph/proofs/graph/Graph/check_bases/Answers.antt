use Rattle.std.proofs.Common.{◌≡◌, ◌<◌, true, false, Some, length, slice_get, refl, sym, ap, ◌∙◌, arith, rules}
use Rattle.std.proofs.lemmas.Option.{slice_get_read, slice_get_within}
use Rattle.gix_chunk_core.proofs.FirstFaultLemmas.{first_below-none, first_below-none_more, first_below-found}
use Rattle.gix_commitgraph.specs.Verify.{base_refusal}
use Rattle.gix_commitgraph.proofs.check.BaseIdLemmas.{base-tested, bases-counted}
use Rattle.gix_commitgraph.proofs.graph.Graph.check_bases.Goals as goal

pub loop-index-init : goal.loop-index-init
loop-index-init g c = first_below-none (base_refusal c.args.self.now c.args.span.layer c.args.span.file.now)

pub index-requires : goal.index-requires
index-requires g c =
    let within = slice_get_within c.args.self.now c.args.span.layer c.args.span.file.now c.requires.there in
    let inside : c.loop-index.index < length c.args.self.now = omega arith in
    search rules

pub returns-then-ne : goal.returns-then-ne
returns-then-ne g c =
    let layers = c.args.self.now in
    let layer = c.args.span.file.now in
    let index = c.loop-index.index in
    let within = slice_get_within layers c.args.span.layer layer c.requires.there in
    let below : slice_get layers index ≡ Some c.index.result.now =
    ap (λ ls. slice_get ls index) (sym c.self.view_is)
    ∙ slice_get_read c.self.inside.files.items (length c.self.inside.files.items) index c.index.result.now refl
    (rw c.self.view_is (omega arith)) c.index.ensures in
    let counted : length layer.bases ≡ c.args.span.layer = omega arith in
    sym (bases-counted layers c.args.span.layer layer counted
    ∙ first_below-found (base_refusal layers c.args.span.layer layer) index c.args.span.layer _ c.loop-index.invariant
    (base-tested layers c.args.span.layer index layer c.index.result.now _ _ true c.base_id_at.ensures below c.checksum.ensures
    (sym c.if-ne.true ∙ c.ne.ensures))
    (omega arith))

pub loop-index-preserved : goal.loop-index-preserved
loop-index-preserved g c =
    let layers = c.args.self.now in
    let layer = c.args.span.file.now in
    let index = c.loop-index.index in
    let within = slice_get_within layers c.args.span.layer layer c.requires.there in
    let below : slice_get layers index ≡ Some c.index.result.now =
    ap (λ ls. slice_get ls index) (sym c.self.view_is)
    ∙ slice_get_read c.self.inside.files.items (length c.self.inside.files.items) index c.index.result.now refl
    (rw c.self.view_is (omega arith)) c.index.ensures in
    first_below-none_more (base_refusal layers c.args.span.layer layer) index c.loop-index.invariant
    (base-tested layers c.args.span.layer index layer c.index.result.now _ _ false c.base_id_at.ensures below c.checksum.ensures
    (sym c.if-ne.false ∙ c.ne.ensures))
