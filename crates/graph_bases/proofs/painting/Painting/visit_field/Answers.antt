use Rattle.std.proofs.Common.{ℕ, subst, arith}
use Rattle.graph_bases.specs.Paint.{passed, paint_at, Grows}
use Rattle.graph_bases.proofs.PaintLemmas.{grows_refl}
use Rattle.graph_bases.proofs.PassLemmas.{passed_kept}
use Rattle.graph_bases.proofs.painting.Painting.visit_field.Goals as goal

pub returns-in-None-clause-on : goal.returns-in-None-clause-on
returns-in-None-clause-on g c = record { grows = λ q. grows_refl _; work = omega arith }

pub returns-in-None-clause-named : goal.returns-in-None-clause-named
returns-in-None-clause-named g c = λ t q said names. absurd (rw c.in-None.is at names)

pub pass-requires-clause-within : goal.pass-requires-clause-within
pass-requires-clause-within g c = rw c.in-GraphPosition.is at c.requires.field.within

pub pass-requires-clause-parent : goal.pass-requires-clause-parent
pass-requires-clause-parent g c = λ t said. rw c.in-GraphPosition.is at (c.requires.field.told t said)

pub returns-in_ok-pass-in-GraphPosition-clause-lists : goal.returns-in_ok-pass-in-GraphPosition-clause-lists
returns-in_ok-pass-in-GraphPosition-clause-lists g c = λ t said l.
    rw c.pass.ensures.trails
    (passed_kept c.args.self.now.coats.all _ _ c.pass.new.self.coats.all
    c.in_ok-pass-in-GraphPosition.ensures.on.grows (c.requires.lists t (c.pass.ensures.kept t said) l))

pub returns-in_ok-pass-in-GraphPosition-clause-named : goal.returns-in_ok-pass-in-GraphPosition-clause-named
returns-in_ok-pass-in-GraphPosition-clause-named g c = λ t q said names.
    let same = rw c.in-GraphPosition.is at names in
    subst (λ (y : ℕ). Grows (passed c.args.paint) (paint_at c.pass.new.self.coats.all y)) same
    c.in_ok-pass-in-GraphPosition.ensures.heard

pub visit_list-requires-clause-listed : goal.visit_list-requires-clause-listed
visit_list-requires-clause-listed g c = rw c.in-ExtraEdgeIndex.is at c.requires.field.within

pub visit_list-requires-clause-told : goal.visit_list-requires-clause-told
visit_list-requires-clause-told g c = λ t said. rw c.in-ExtraEdgeIndex.is at (c.requires.field.told t said)

pub returns-in_ok-visit_list-in-ExtraEdgeIndex-clause-named : goal.returns-in_ok-visit_list-in-ExtraEdgeIndex-clause-named
returns-in_ok-visit_list-in-ExtraEdgeIndex-clause-named g c = λ t q said names.
    c.in_ok-visit_list-in-ExtraEdgeIndex.ensures.named t q said (rw c.in-ExtraEdgeIndex.is at names)
