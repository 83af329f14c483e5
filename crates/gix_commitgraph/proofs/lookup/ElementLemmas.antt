-- laws of lists by their elements
use Rattle.std.proofs.Common.{◌≡◌, ◌⊎◌, inl, inr, ℕ, zero, suc, ◌+◌, ◌<◌, List, [], ◌∷◌, ◌++◌, length, drop, slice_get, Some}
use Rattle.std.proofs.Common.{All, refl, ap, subst, ◌∙◌, add-one, arith}
use Rattle.std.proofs.lemmas.Option.{same_Some, slice_get_within, get_or_from_slice_get}

-- what stands at a place of a list with one element more
pub pushed : {X : Type 0} (xs : List X) (y z : X) (k : ℕ) → slice_get (xs ++ y ∷ []) k ≡ Some z
    → (slice_get xs k ≡ Some z) ⊎ ((k ≡ length xs) × (y ≡ z))
pushed [] y z zero here = inr (refl, same_Some y z here)
pushed [] y z (suc k) here = cc
pushed (x ∷ xs) y z zero here = inl here
pushed (x ∷ xs) y z (suc k) here =
    elim (pushed xs y z k here) [
      | inl before ↦ inl before
      | inr last ↦ inr (ap suc last.0, last.1)
    ]

left-suc : {X : Type 0} (xs left : List X) (k : ℕ) (x : X) → drop k xs ≡ x ∷ left
    → (slice_get xs k ≡ Some x) × (drop (suc k) xs ≡ left)
left-suc [] left zero x h = cc
left-suc [] left (suc k) x h = cc
left-suc (y ∷ ys) left zero x h = (cc, cc)
left-suc (y ∷ ys) left (suc k) x h = left-suc ys left k x h

-- what is left from a place on begins with what stands there
pub left-first : {X : Type 0} (xs left : List X) (k : ℕ) (x : X) → drop k xs ≡ x ∷ left
    → (slice_get xs k ≡ Some x) × (drop (k + 1) xs ≡ left)
left-first xs left k x h =
    let is = left-suc xs left k x h in (is.0, ap (λ (n : ℕ). drop n xs) (add-one k) ∙ is.1)

-- there is an element at each place
pub some-place : {X : Type 0} (xs : List X) (k : ℕ) → k < length xs → (x : X) × (slice_get xs k ≡ Some x)
some-place [] k h = absurd (omega (arith, h))
some-place (x ∷ xs) zero h = (x, refl)
some-place (x ∷ xs) (suc k) h = some-place xs k (omega (arith, h))

-- what holds of all elements holds of the one at a place
pub all-at : {X : Type 0} (P : X → Type 0) (xs : List X) (k : ℕ) (x : X) → All P xs → slice_get xs k ≡ Some x → P x
all-at P xs k x all here = subst P (get_or_from_slice_get xs k x x here) (all k x (slice_get_within xs k x here))
