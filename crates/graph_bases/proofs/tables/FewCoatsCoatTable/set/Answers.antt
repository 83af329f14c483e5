use Rattle.std.proofs.Common.{◌<◌, ◌∷◌, [], ◌++◌, ◌∙◌, ℕ, List, length, set, ap, sym, subst, refl}
use Rattle.graph_bases.specs.Sheet.{sheet_of}
use Rattle.graph_bases.specs.declared.paint.Coat.{Coat}
use Rattle.graph_bases.proofs.SheetLemmas.{kept_pushed, sheet_pushed, sheet_replaced}
use Rattle.graph_bases.proofs.tables.FewCoatsCoatTable.set.Goals as goal

pub returns-in-Some : goal.returns-in-Some
returns-in-Some c =
    let a = c.self.inside in
    let p = c.args.commit in
    let inside = subst (λ (l : List Coat). p < length l) (sym c.self.view_is) c.requires in
    sheet_replaced a.painted a.coats.items a.count p inside c.self.invariant c.in-Some.place c.args.coat
    c.in-Some.ensures.within c.in-Some.ensures.some
    ∙ ap (λ (l : List Coat). set l p c.args.coat) c.self.view_is

pub invariant_of-self-in-Ok : goal.invariant_of-self-in-Ok
invariant_of-self-in-Ok c =
    let a = c.self.inside in
    rw (c.in-Ok.ensures.added, c.in_ok-push.ensures.items)
    (kept_pushed a.painted a.coats.items c.args.commit c.args.coat c.in_default.ensures.none c.self.invariant)

pub returns-in-Ok : goal.returns-in-Ok
returns-in-Ok c =
    let a = c.self.inside in
    let p = c.args.commit in
    let inside = subst (λ (l : List Coat). p < length l) (sym c.self.view_is) c.requires in
    ap (λ (ps : List ℕ). sheet_of ps c.push.new.self.items a.count) c.in-Ok.ensures.added
    ∙ ap (λ (cs : List Coat). sheet_of (a.painted ++ p ∷ []) cs a.count) c.in_ok-push.ensures.items
    ∙ sheet_pushed a.painted a.coats.items a.count p inside c.self.invariant p c.args.coat c.in_default.ensures.none refl
    ∙ ap (λ (l : List Coat). set l p c.args.coat) c.self.view_is
