use Rattle.std.proofs.Common.{◌≡◌, ◌∙◌, ◌<◌, ◌≤◌, ℕ, List, Contains, Some, ap, arith, length, slice_get, subst, sym}
use Rattle.std.proofs.lemmas.Bool.{false≢true}
use Rattle.std.proofs.lemmas.Bool.Decides.{Decides-eqb}
use Rattle.std.proofs.lemmas.List.{take_all}
use Rattle.std.proofs.lemmas.Option.{slice_get-get_or}
use Rattle.std.proofs.lemmas.Slice.Eq.{slice_eq-Decides}
use Rattle.commit_requests.proofs.NumberLemmas.{not_yet}
use Rattle.commit_requests.proofs.completing.number_of.Goals as goal

pub returns-then-eq : goal.returns-then-eq
returns-then-eq c =
    let ids : List (List ℕ) = c.args.ids.now in
    let number : ℕ = c.loop-number.number in
    let other : List ℕ = c.index-ids-number.result in
    let lt : number < length ids = omega arith in
    let at : slice_get ids number ≡ Some other =
    slice_get-get_or ids number other lt ∙ ap (λ (x : List ℕ). Some x) (sym c.index-ids-number.is) in
    let same = slice_eq-Decides Decides-eqb other c.args.id c.eq.result c.eq.ensures in
    (at ∙ ap (λ (x : List ℕ). Some x) (same.0 c.if-eq.true), c.loop-number.invariant)

pub loop-number-preserved : goal.loop-number-preserved
loop-number-preserved c =
    let ids : List (List ℕ) = c.args.ids.now in
    let number : ℕ = c.loop-number.number in
    let other : List ℕ = c.index-ids-number.result in
    let lt : number < length ids = omega arith in
    let at : slice_get ids number ≡ Some other =
    slice_get-get_or ids number other lt ∙ ap (λ (x : List ℕ). Some x) (sym c.index-ids-number.is) in
    let same = slice_eq-Decides Decides-eqb other c.args.id c.eq.result c.eq.ensures in
    not_yet ids number c.args.id other at (λ is. false≢true (sym c.if-eq.false ∙ same.1 is)) c.loop-number.invariant

pub returns : goal.returns
returns c =
    let ids : List (List ℕ) = c.args.ids.now in
    let all : length ids ≤ c.loop-number.number = omega (arith, c.loop-number-test.false) in
    λ contained.
    c.loop-number.invariant
    (subst (λ (xs : List (List ℕ)). Contains xs c.args.id) (sym (take_all c.loop-number.number ids all)) contained)
