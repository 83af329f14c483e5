-- The order of lists of bytes.
use Rattle.std.proofs.Common.{◌≡◌, ◌<◌, ◌⊎◌, inl, inr, ℕ, zero, suc, List, [], ◌∷◌, Ordering, arith, ap, refl, sym, ◌∙◌, length}
use Rattle.std.proofs.Common.{slice_index, take}
use Rattle.std.proofs.lemmas.Bool.Decides.{nat_tests}
use Rattle.std.proofs.lemmas.Cmp.{by_ranked, nat_list_cmp_total, ranked, tied_itself}
use Rattle.std.specs.Cmp.Lexicographic.{bytes_decides, slice_cmp}
use Rattle.std.specs.Ordering.{nat_cmp, ordering_reverse}
use Rattle.std.specs.declared.cmp.Ordering.TheVariants.{Less, Equal, Greater}
use Rattle.gix_hash_core.specs.IdLaws.{AreOrdered, IsBefore}

-- a list with something in it comes after the empty one
IsBefore-nil : (y : ℕ) (ys : List ℕ) → IsBefore [] (y ∷ ys)
IsBefore-nil y ys = record { place = 0; agree = refl; goes_on = omega arith; comes_first = inl refl }

-- a lesser byte at the head decides
IsBefore-head : (x y : ℕ) (xs ys : List ℕ) → x < y → IsBefore (x ∷ xs) (y ∷ ys)
IsBefore-head x y xs ys lesser = record {
  place = 0;
  agree = refl;
  goes_on = omega arith;
  comes_first = inr (omega arith, lesser);
}

-- lists in order stay so behind one byte
IsBefore-cons : (x : ℕ) (xs ys : List ℕ) → IsBefore xs ys → IsBefore (x ∷ xs) (x ∷ ys)
IsBefore-cons x xs ys before = record {
  place = suc before.place;
  agree = ap (λ rest. x ∷ rest) before.agree;
  goes_on = omega arith;
  comes_first =
      elim before.comes_first [
        | inl ended ↦ inl (omega arith)
        | inr lesser ↦ inr (omega arith, lesser.1)
      ];
}

-- what `Less` says of two lists
before_from_less : (first second : List ℕ) → slice_cmp nat_cmp first second ≡ Less → IsBefore first second
before_from_less [] [] less = cc less
before_from_less [] (y ∷ ys) less = IsBefore-nil y ys
before_from_less (x ∷ xs) [] less = cc less
before_from_less (x ∷ xs) (y ∷ ys) less =
    by_ranked (x < y) (x ≡ y) (y < x) (nat_cmp x y) (ranked x y _ refl)
    (λ _ lesser. IsBefore-head x y xs ys lesser)
    (λ tied same.
    let rest : slice_cmp nat_cmp xs ys ≡ Less = rw tied at less in
    rw (← same) (IsBefore-cons x xs ys (before_from_less xs ys rest)))
    (λ turned _. cc (rw turned at less))

-- a place that shows the order of two lists makes them `Less`
less_from_place : (place : ℕ) (first second : List ℕ) → take place first ≡ take place second → place < length second
    → (place ≡ length first) ⊎ ((place < length first) × (slice_index first place < slice_index second place))
    → slice_cmp nat_cmp first second ≡ Less
less_from_place place first [] agree inside comes_first = absurd (omega arith)
less_from_place place [] (y ∷ ys) agree inside comes_first = refl
less_from_place zero (x ∷ xs) (y ∷ ys) agree inside comes_first =
    elim comes_first [
      | inl ended ↦ absurd (omega arith)
      | inr lesser ↦
          let below : nat_cmp x y ≡ Less = grind (arith, nat_tests, lesser.1) in
          rw below refl
    ]
less_from_place (suc place) (x ∷ xs) (y ∷ ys) agree inside comes_first =
    let heads : x ≡ y = cc agree in
    let rests : take place xs ≡ take place ys = cc agree in
    let tied : nat_cmp x y ≡ Equal = grind (arith, nat_tests) in
    rw tied (less_from_place place xs ys rests (omega arith) (elim comes_first [
      | inl ended ↦ inl (omega arith)
      | inr lesser ↦ inr (omega arith, lesser.1)
    ]))

-- a list that comes before another is `Less`
less_from_before : (first second : List ℕ) → IsBefore first second → slice_cmp nat_cmp first second ≡ Less
less_from_before first second before =
    less_from_place before.place first second before.agree before.goes_on before.comes_first

-- what `Equal` says of two lists
same_from_equal : (first second : List ℕ) → slice_cmp nat_cmp first second ≡ Equal → first ≡ second
same_from_equal [] [] equal = refl
same_from_equal [] (y ∷ ys) equal = cc equal
same_from_equal (x ∷ xs) [] equal = cc equal
same_from_equal (x ∷ xs) (y ∷ ys) equal =
    by_ranked (x < y) (x ≡ y) (y < x) (nat_cmp x y) (ranked x y _ refl)
    (λ below _. cc (rw below at equal))
    (λ tied same.
    let rest : slice_cmp nat_cmp xs ys ≡ Equal = rw tied at equal in
    let rests = same_from_equal xs ys rest in
    cc)
    (λ turned _. cc (rw turned at equal))

-- an order that turns to `Greater` is `Less`
less_from_turned : (order : Ordering) → ordering_reverse order ≡ Greater → order ≡ Less
less_from_turned Less turned = refl
less_from_turned Equal turned = cc turned
less_from_turned Greater turned = cc turned

-- the comparisons of ids are those of their lists of bytes
pub are_ordered : (first second : List ℕ) → AreOrdered first second
are_ordered first second =
    let turn = nat_list_cmp_total.antisymm first second in
    record {
      equal = bytes_decides first second;
      same = (same_from_equal first second, λ same. rw same (tied_itself nat_list_cmp_total second));
      before = (before_from_less first second, less_from_before first second);
      after = (
        λ greater. before_from_less second first (less_from_turned _ (sym turn ∙ greater)),
        λ before. turn ∙ ap ordering_reverse (less_from_before second first before),
      );
    }
