use Rattle.std.proofs.Common.{◌<◌, ◌∙◌, List, length, ap, sym, subst, arith}
use Rattle.std.proofs.lemmas.List.{get_or_read}
use Rattle.graph_bases.specs.Sheet.{bare, coat_at}
use Rattle.graph_bases.specs.declared.paint.Coat.{Coat}
use Rattle.graph_bases.proofs.SheetLemmas.{sheet_none, sheet_place}
use Rattle.graph_bases.proofs.tables.FewCoatsCoatTable.at.Goals as goal

pub index-requires : goal.index-requires
index-requires c = omega (arith, c.in-Some.ensures.within, c.self.invariant.as_many)

pub returns-in-Some : goal.returns-in-Some
returns-in-Some c =
    let a = c.self.inside in
    let p = c.args.commit in
    let place = c.in-Some.place in
    let inside = subst (λ (l : List Coat). p < length l) (sym c.self.view_is) c.requires in
    let within : place < length a.coats.items = omega (arith, c.in-Some.ensures.within, c.self.invariant.as_many) in
    get_or_read a.coats.items place c.index.result.now within c.index.ensures bare
    ∙ sym (sheet_place a.painted a.coats.items a.count p inside c.self.invariant place c.in-Some.ensures.within
    c.in-Some.ensures.some)
    ∙ ap (λ (l : List Coat). coat_at l p) c.self.view_is

pub returns-in-None : goal.returns-in-None
returns-in-None c =
    let a = c.self.inside in
    let p = c.args.commit in
    let inside = subst (λ (l : List Coat). p < length l) (sym c.self.view_is) c.requires in
    sym (sheet_none a.painted a.coats.items a.count p inside (rw c.in-None.is at c.place_of.ensures.none))
    ∙ ap (λ (l : List Coat). coat_at l p) c.self.view_is
