-- Where a check has no fault: neither has any of its parts.
use Rattle.std.proofs.Common.{◌≡◌, ℕ, ◌<◌, List, [], ◌∷◌, ◌++◌, length, get_or, slice_get, Option, Some, None}
use Rattle.std.proofs.Common.{refl, sym, ◌∙◌, subst, arith}
use Rattle.std.specs.Prelude.{◌↔◌, All}
use Rattle.std.specs.List.{flat_map, range_with_len, enumerate_from}
use Rattle.std.proofs.lemmas.List.Elements.{All-nil, All-cons, All-head, All-tail}
use Rattle.std.proofs.lemmas.List.FromFn.{length-range_with_len, get_or-range_with_len, length-enumerate_from}
use Rattle.std.proofs.lemmas.List.FromFn.{get_or-enumerate_from}
use Rattle.std.proofs.lemmas.Option.{slice_get_within, slice_get-get_or, get_or_from_slice_get}
use Rattle.std.specs.Option.{option_map}
use Rattle.graph_format.specs.Points.{Point, check, call, first_some, first_fault}

pub option_map-none : {X Y : Type 0} (f : X → Y) (o : Option X) → (option_map f o ≡ None) ↔ (o ≡ None)
option_map-none f None = (λ h. refl, λ h. refl)
option_map-none f (Some x) = (λ h. cc, λ h. cc)

pub first_some-none : {Y : Type 0} (o : Option Y) (os : List (Option Y)) → (first_some (o ∷ os) ≡ None)
    ↔ ((o ≡ None) × (first_some os ≡ None))
first_some-none None os = (λ h. (refl, h), λ h. h.1)
first_some-none (Some y) os = (λ h. cc, λ h. cc)

module _ {X : Type 0} where
  pub check-none : (o : Option X) (points : List (Point X)) → (first_fault (check o ∷ points) ≡ None)
      ↔ ((o ≡ None) × (first_fault points ≡ None))
  check-none None points = (λ h. (refl, h), λ h. h.1)
  check-none (Some x) points = (λ h. cc, λ h. cc)

  pub append-none : (a b : List (Point X)) → (first_fault (a ++ b) ≡ None) ↔ ((first_fault a ≡ None) × (first_fault b ≡ None))
  append-none [] b = (λ h. (refl, h), λ h. h.1)
  append-none (check None ∷ a) b = append-none a b
  append-none (check (Some x) ∷ a) b = (λ h. cc, λ h. cc)
  append-none (call p ∷ a) b = append-none a b

  -- no part has a fault
  abbrev pub AreFaultFree : {A : Type 0} → (A → List (Point X)) → List A → Type 0
  AreFaultFree f xs = All (λ x. first_fault (f x) ≡ None) xs

  pub flat_map-none : {A : Type 0} (f : A → List (Point X)) (xs : List A) → (first_fault (flat_map f xs) ≡ None)
      ↔ AreFaultFree f xs
  flat_map-none f [] = (λ h. All-nil (λ x. first_fault (f x) ≡ None), λ h. refl)
  flat_map-none {A} f (x ∷ xs) =
      let P : A → Type 0 = λ a. first_fault (f a) ≡ None in
      let parts = append-none (f x) (flat_map f xs) in
      let rest = flat_map-none f xs in (
        λ h. let both = parts.0 h in All-cons P x xs both.0 (rest.0 both.1),
        λ h. parts.1 (All-head P x xs h, rest.1 (All-tail P x xs h)),
      )

  -- parts by the places of a list
  pub enumerate-none : {A : Type 0} (f : ℕ → A → List (Point X)) (xs : List A)
      → (first_fault (flat_map (λ e. f e.0 e.1) (enumerate_from 0 xs)) ≡ None)
      ↔ ((i : ℕ) (x : A) → slice_get xs i ≡ Some x → first_fault (f i x) ≡ None)
  enumerate-none {A} f xs =
      let parts = flat_map-none (λ (e : ℕ × A). f e.0 e.1) (enumerate_from 0 xs) in
      let P : ℕ × A → Type 0 = λ e. first_fault (f e.0 e.1) ≡ None in
      let counted : length (enumerate_from 0 xs) ≡ length xs = length-enumerate_from 0 xs in (
        λ h i x there.
            let inside : i < length xs = slice_get_within xs i x there in
            let same : get_or (enumerate_from 0 xs) i (0, x) ≡ (i, x) = get_or-enumerate_from 0 xs i (0, x) inside
            ∙ pair (omega arith) (get_or_from_slice_get xs i x x there) in
            subst P same (parts.0 h i (0, x) (omega arith)),
        λ h. parts.1 (λ k d within.
            let inside : k < length xs = omega arith in
            let same : get_or (enumerate_from 0 xs) k d ≡ (k, get_or xs k d.1) = get_or-enumerate_from 0 xs k d inside
            ∙ pair (omega arith) refl in
            subst P (sym same) (h k (get_or xs k d.1) (slice_get-get_or xs k d.1 inside))),
      )
    where
      pair : {i j : ℕ} {x y : A} → i ≡ j → x ≡ y → ◌≡◌ {A = ℕ × A} (i, x) (j, y)
      pair e g = cc

  -- parts by number
  pub range-none : (f : ℕ → List (Point X)) (n : ℕ) → (first_fault (flat_map f (range_with_len 0 n)) ≡ None)
      ↔ ((k : ℕ) → k < n → first_fault (f k) ≡ None)
  range-none f n =
      let parts = flat_map-none f (range_with_len 0 n) in
      let P : ℕ → Type 0 = λ k. first_fault (f k) ≡ None in
      let counted : length (range_with_len 0 n) ≡ n = length-range_with_len 0 n in (
        λ h k inside. subst P (get_or-range_with_len 0 n k 0 inside ∙ omega arith) (parts.0 h k 0 (omega arith)),
        λ h. parts.1 (λ k d within.
            let inside : k < n = omega arith in
            let same : get_or (range_with_len 0 n) k d ≡ k = get_or-range_with_len 0 n k d inside ∙ omega arith in
            subst P (sym same) (h k inside)),
      )
