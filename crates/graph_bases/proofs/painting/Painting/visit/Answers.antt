use Rattle.std.proofs.Common.{◌∙◌, ⊎_elim}
use Rattle.commit_search.specs.Positions.{numbers_of}
use Rattle.graph_bases.proofs.PaintLemmas.{grows_trans}
use Rattle.graph_bases.proofs.PassLemmas.{spread_ends, passes_kept}
use Rattle.graph_bases.proofs.painting.Painting.visit.Goals as goal

pub visit_field-requires-clause-passes : goal.visit_field-requires-clause-passes
visit_field-requires-clause-passes g c =
    rw c.parent_fields.ensures.known
    (passes_kept _ _ _ _ c.args.self.now c.args.commit.0 c.args.paint c.parent_fields.ensures.kept c.requires.passes)

pub visit_field-requires-clause-lists : goal.visit_field-requires-clause-lists
visit_field-requires-clause-lists g c = λ t said. c.requires.lists t (c.parent_fields.ensures.kept t said)

pub visit_field-requires-clause-field : goal.visit_field-requires-clause-field
visit_field-requires-clause-field g c =
    let are = c.in_ok-fields.ensures.fields in
    rw c.parent_fields.ensures.known (record { within = are.first; told = λ t said. (are.told t said).first })

pub visit_field-requires-2-clause-passes : goal.visit_field-requires-2-clause-passes
visit_field-requires-2-clause-passes g c = rw c.visit_field.ensures.known c.in_ok-visit_field.ensures.passes

pub visit_field-requires-2-clause-field : goal.visit_field-requires-2-clause-field
visit_field-requires-2-clause-field g c =
    let are = c.in_ok-fields.ensures.fields in
    rw (c.visit_field.ensures.known, c.parent_fields.ensures.known)
    (record { within = are.second; told = λ t said. (are.told t (c.visit_field.ensures.kept t said)).second })

pub returns-clause-spread : goal.returns-clause-spread
returns-clause-spread g c = λ t said.
    let s = c.args.self.now in
    let one = c.in_ok-visit_field.ensures in
    let two = c.in_ok-visit_field-2.ensures in
    let mid = c.visit_field-2.ensures.kept t said in
    let first = c.visit_field-2.ensures.first ∙ c.visit_field.ensures.first in
    let others = c.visit_field-2.ensures.others ∙ c.visit_field.ensures.others in
    let all = (c.in_ok-fields.ensures.fields.told t (c.visit_field.ensures.kept t mid)).all in
    spread_ends t.history s.first.0 (numbers_of s.others.now) c.args.commit.0 c.args.paint
    c.visit_field-2.new.self.coats.all (rw (first, others) at (two.passes.told t said).spread) two.passes.same
    (λ q parent.
    ⊎_elim
    (λ x. grows_trans _ _ _ (one.named t q mid (rw c.parent_fields.ensures.known x)) (two.on.grows q))
    (λ y. two.named t q said (rw (c.visit_field.ensures.known, c.parent_fields.ensures.known) y))
    (all q parent))

pub returns-clause-level : goal.returns-clause-level
returns-clause-level g c = λ t said right. ((c.in_ok-visit_field-2.ensures.passes.told t said).in_order right).level

pub returns-clause-told : goal.returns-clause-told
returns-clause-told g c = λ t said. (c.in_ok-visit_field-2.ensures.passes.told t said).painting
