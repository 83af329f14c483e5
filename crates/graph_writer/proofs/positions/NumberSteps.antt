-- The numbers of the first commits, by their ids, as a map is filled with them.
use Rattle.std.proofs.Common.{◌≡◌, ℕ, zero, suc, ◌+◌, ◌<◌, ◌≤◌, Bool, true, false, cond, List, [], ◌∷◌, length, take, slice_get}
use Rattle.std.proofs.Common.{Option, Some, None, bytes_eq, refl, sym, ap, ◌∙◌, ⊎_elim, arith}
use Rattle.std.proofs.lemmas.Bool.{cases_lt}
use Rattle.std.proofs.lemmas.Option.{slice_get_within, same_Some, none-some}
use Rattle.std.proofs.lemmas.Slice.Eq.{bytes_eq-Decides}
use Rattle.graph_format.specs.Lookup.{scan}
use Rattle.graph_format.proofs.ScanLemmas.{scan-found, scan-none}

-- what stands among the first elements
pub get-take : {X : Type 0} (xs : List X) (n i : ℕ) → i < n → slice_get (take n xs) i ≡ slice_get xs i
get-take xs zero i lt = absurd (omega arith)
get-take [] (suc n) i lt = refl
get-take (x ∷ xs) (suc n) zero lt = refl
get-take (x ∷ xs) (suc n) (suc i) lt = get-take xs n i (omega arith)

pub within-take : {X : Type 0} (xs : List X) (n i : ℕ) (x : X) → slice_get (take n xs) i ≡ Some x
    → (i < n) × (slice_get xs i ≡ Some x)
within-take xs zero i x here = absurd (none-some x here)
within-take [] (suc n) i x here = absurd (none-some x here)
within-take (y ∷ xs) (suc n) zero x here = (omega arith, here)
within-take (y ∷ xs) (suc n) (suc i) x here = let more = within-take xs n i x here in (omega (arith, more.0), more.1)

-- The function gives each of the first i ids its number, and nothing to others.
pub record AreNumbers (ids : List (List ℕ)) (i : ℕ) (f : List ℕ → Option ℕ) : Type 0 where
  pub known : (q : List ℕ) (j : ℕ) → f q ≡ Some j → (j < i) × (slice_get ids j ≡ Some q)
  pub all : (j : ℕ) (q : List ℕ) → j < i → slice_get ids j ≡ Some q → f q ≡ Some j

pub numbers-none : (ids : List (List ℕ)) (f : List ℕ → Option ℕ) → ((q : List ℕ) → f q ≡ None) → AreNumbers ids 0 f
numbers-none ids f none = record {
  known = λ q j here. absurd (none-some j (sym (none q) ∙ here));
  all = λ j q lt here. absurd (omega arith);
}

module _ (ids : List (List ℕ)) (i : ℕ) (f : List ℕ → Option ℕ) (are : AreNumbers ids i f) where
  -- one more id
  module _ (id : List ℕ) (g : List ℕ → Option ℕ) (here : slice_get ids i ≡ Some id) (new : f id ≡ None)
      (more : (q : List ℕ) → g q ≡ cond (bytes_eq id q) (Some i) (f q)) where
    same-key : (q : List ℕ) → bytes_eq id q ≡ true → g q ≡ Some i
    same-key q same = more q ∙ ap (λ (b : Bool). cond b (Some i) (f q)) same

    other-key : (q : List ℕ) → bytes_eq id q ≡ false → g q ≡ f q
    other-key q apart = more q ∙ ap (λ (b : Bool). cond b (Some i) (f q)) apart

    more-known : (q : List ℕ) (j : ℕ) → g q ≡ Some j → (b : Bool) → bytes_eq id q ≡ b → (j < i + 1) × (slice_get ids j ≡ Some q)
    more-known q j is true same =
        let number : i ≡ j = same_Some i j (sym (same-key q same) ∙ is) in
        let key : id ≡ q = (bytes_eq-Decides id q).0 same in
        (omega arith, ap (slice_get ids) (sym number) ∙ here ∙ ap (λ (x : List ℕ). Some x) key)
    more-known q j is false apart =
        let old = are.known q j (sym (other-key q apart) ∙ is) in (omega (arith, old.0), old.1)

    more-all : (j : ℕ) (q : List ℕ) → j < i + 1 → slice_get ids j ≡ Some q → (b : Bool) → bytes_eq id q ≡ b → g q ≡ Some j
    more-all j q lt at true same =
        let key : id ≡ q = (bytes_eq-Decides id q).0 same in
        ⊎_elim
        (λ (old : j < i). absurd (none-some j (sym new ∙ ap f key ∙ are.all j q old at)))
        (λ (last : i ≤ j). let number : i ≡ j = omega arith in same-key q same ∙ ap (λ (n : ℕ). Some n) number)
        (cases_lt j i)
    more-all j q lt at false apart =
        ⊎_elim
        (λ (old : j < i). other-key q apart ∙ are.all j q old at)
        (λ (last : i ≤ j).
        let number : j ≡ i = omega arith in
        let key : id ≡ q = same_Some id q (sym here ∙ ap (slice_get ids) (sym number) ∙ at) in
        let clash : true ≡ false = sym ((bytes_eq-Decides id q).1 key) ∙ apart in absurd (cc))
        (cases_lt j i)

    pub numbers-more : AreNumbers ids (i + 1) g
    numbers-more = record {
      known = λ q j is. more-known q j is (bytes_eq id q) refl;
      all = λ j q lt at. more-all j q lt at (bytes_eq id q) refl;
    }

  -- an id that has no number stands nowhere among the first ones
  pub numbers-once : (id : List ℕ) → f id ≡ None → scan (take i ids) id ≡ None
  numbers-once id new =
      scan-none (take i ids) id (λ j at.
      let there = within-take ids i j id at in none-some j (sym new ∙ are.all j id there.0 there.1))

  -- and one that has a number stands there first
  pub numbers-twice : (id : List ℕ) (j : ℕ) → f id ≡ Some j → scan (take i ids) id ≡ Some j
  numbers-twice id j is =
      let known = are.known id j is in
      scan-found (take i ids) id j (get-take ids i j known.0 ∙ known.1) (λ k lt at.
      let there = within-take ids i k id at in
      let same : j ≡ k = same_Some j k (sym is ∙ are.all k id there.0 there.1) in omega arith)

-- where all ids have their numbers, these are what a scan answers
pub numbers-scan : (ids : List (List ℕ)) (f : List ℕ → Option ℕ) → AreNumbers ids (length ids) f → (q : List ℕ) → f q ≡ scan ids q
numbers-scan ids f are q = by-cases (f q) refl where
  by-cases : (answer : Option ℕ) → f q ≡ answer → f q ≡ scan ids q
  by-cases None is =
      is ∙ sym (scan-none ids q (λ j at. none-some j (sym is ∙ are.all j q (slice_get_within ids j q at) at)))
  by-cases (Some j) is =
      let known = are.known q j is in
      is ∙ sym (scan-found ids q j known.1 (λ k lt at.
      let same : j ≡ k = same_Some j k (sym is ∙ are.all k q (slice_get_within ids k q at) at) in omega arith))
