-- Ids of one kind.
use Rattle.std.proofs.Common.{◌≡◌, ◌&&◌, ℕ, zero, suc, Bool, true, false, List, [], ◌∷◌, Some, slice_get, refl, sym, ap, ◌∙◌}
use Rattle.std.specs.List.{list_all}
use Rattle.std.proofs.lemmas.Option.{same_Some}

and-false : (a : Bool) → (a && false) ≡ false
and-false false = refl
and-false true = refl

-- where one does not pass a test, not all do
pub not-all : {X : Type 0} (p : X → Bool) (xs : List X) (i : ℕ) (x : X) → slice_get xs i ≡ Some x → p x ≡ false
    → list_all p xs ≡ false
not-all p [] i x at fails = absurd (cc)
not-all p (y ∷ ys) zero x at fails = ap (λ (b : Bool). b && list_all p ys) (ap p (same_Some y x at) ∙ fails)
not-all p (y ∷ ys) (suc i) x at fails = ap (λ (b : Bool). p y && b) (not-all p ys i x at fails) ∙ and-false (p y)
