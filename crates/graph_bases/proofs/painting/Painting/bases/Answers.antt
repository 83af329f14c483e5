use Rattle.std.proofs.Common.{ℕ, Bool, List, get_or, Contains, sym, ap, ◌∙◌, subst}
use Rattle.std.specs.List.{filter}
use Rattle.std.proofs.lemmas.List.{take_all}
use Rattle.std.proofs.lemmas.List.Elements.{Contains-get_or}
use Rattle.std.proofs.lemmas.List.Sorted.{Contains-permutation, IsPermutation-sym}
use Rattle.graph_bases.specs.Paint.{is_base, paint_at}
use Rattle.graph_bases.specs.Painting.{AreBases}
use Rattle.graph_bases.specs.declared.paint.Coat.{Coat}
use Rattle.graph_bases.proofs.FoundLemmas.{known_within, filter_one, filter_skip, sorted_bases, numbers_push}
use Rattle.graph_bases.proofs.painting.Painting.bases.Goals as goal
use Rattle.graph_bases.proofs.painting.Painting.bases.Goals.{then-is_base+in_ok-push, else-is_base}

pub at-requires : goal.at-requires
at-requires g c =
    let s = c.args.self.now in
    let xs = c.deref-number-items.result.now in
    let i = c.loop-number.number-index in
    let sorted : Contains c.sort_unstable.new.self.items (get_or xs i 0) =
    subst (λ (ys : List ℕ). Contains ys (get_or xs i 0)) c.deref-number-items.ensures.value
    (Contains-get_or xs i 0 c.loop-number-test.true) in
    let candidates =
    Contains-permutation c.sort_unstable.new.self.items s.candidates.items (get_or xs i 0)
    (IsPermutation-sym s.candidates.items c.sort_unstable.new.self.items c.sort_unstable.ensures.permutation) sorted in
    known_within s.coats.all (get_or xs i 0) (c.requires.first (get_or xs i 0) candidates)

pub loop-number-preserved : goal.loop-number-preserved
loop-number-preserved g c =
    let coats = c.args.self.now.coats.all in
    let l = c.loop-number in
    let i = l.number-index in
    let xs = c.deref-number-items.result.now in
    let t : ℕ → Bool = λ p. is_base (paint_at coats p) in
    let test = ap (λ (m : Coat). is_base m.paint) (sym c.at.ensures) ∙ sym c.is_base.ensures in
    elim c.if-is_base.branch [
      | then-is_base+in_ok-push w ↦
          rw (w.bases-is, w.in_ok-push.ensures.items, numbers_push l.bases.items (record { 0 = get_or xs i 0 }), l.invariant)
          (sym (filter_one t xs i c.loop-number-test.true (test ∙ w.if-is_base.true)))
      | else-is_base w ↦
          rw (w.bases-is, l.invariant) (sym (filter_skip t xs i c.loop-number-test.true (test ∙ w.if-is_base.false)))
    ]

pub returns-clause-bases : goal.returns-clause-bases
returns-clause-bases g c =
    let s = c.args.self.now in
    let l = c.loop-number in
    let xs = c.deref-number-items.result.now in
    let t : ℕ → Bool = λ p. is_base (paint_at s.coats.all p) in
    let all =
    l.invariant
    ∙ ap (filter t) (take_all l.number-index xs c.loop-number-test.false ∙ c.deref-number-items.ensures.value) in
    subst (AreBases s.coats.all) (sym all)
    (sorted_bases s.coats.all s.candidates.items c.sort_unstable.new.self.items c.requires
    c.sort_unstable.ensures.permutation c.sort_unstable.ensures.sorted)
