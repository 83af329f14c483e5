use Rattle.std.proofs.Common.{◌<◌, ◌∷◌, [], ◌++◌, length, ap, ◌∙◌, arith}
use Rattle.std.proofs.lemmas.Bool.{both_ways}
use Rattle.std.proofs.lemmas.List.{get_or_read}
use Rattle.std.proofs.lemmas.List.Elements.{All-push, Contains-append_left, Contains-push}
use Rattle.graph_bases.specs.Sheet.{bare}
use Rattle.graph_bases.specs.declared.paint.Coat.{Coat}
use Rattle.graph_bases.proofs.SheetLemmas.{changed_painted, changed_set}
use Rattle.graph_bases.proofs.tables.AllCoatsCoatTable.set.Goals as goal
use Rattle.graph_bases.proofs.tables.AllCoatsCoatTable.set.Goals.{then-is_bare+in_ok-push, else-is_bare}

pub invariant_of-self-2 : goal.invariant_of-self-2
invariant_of-self-2 c =
    let a = c.self.inside in
    let p = c.args.commit in
    let inside : p < length a.coats.items = omega (arith, c.requires, ap length c.self.view_is) in
    elim c.if-is_bare.branch [
      | then-is_bare+in_ok-push w ↦
          rw (w.self-inside-is, w.in_ok-push.ensures.items)
          (changed_set a.coats.items a.painted.items (a.painted.items ++ p ∷ []) p c.args.coat (Contains-push a.painted.items p)
          (λ q was. Contains-append_left a.painted.items (p ∷ []) q was)
          (All-push (λ n. n < length a.coats.items) a.painted.items p c.self.invariant.within inside) c.self.invariant)
      | else-is_bare w ↦
          rw w.self-inside-is
          (changed_set a.coats.items a.painted.items a.painted.items p c.args.coat
          (changed_painted a.coats.items a.painted.items p c.self.invariant
          (λ none.
          both_ways c.is_bare.result w.if-is_bare.false
          (c.is_bare.ensures.1
          (ap (λ (m : Coat). m.paint) (get_or_read a.coats.items p c.index.result.now inside c.index.ensures bare ∙ none)))))
          (λ q was. was) c.self.invariant.within c.self.invariant)
    ]
