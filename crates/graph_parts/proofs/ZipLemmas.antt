-- lists of which each element has a partner
use Rattle.std.proofs.Common.{◌≡◌, ℕ, suc, zero, List, [], ◌∷◌, Option, Some, None, Result, Ok, Err, IfOk, IfSome, map, refl, sym}
use Rattle.std.proofs.Common.{ap, subst, ◌∙◌, All}
use Rattle.std.specs.List.{AllZip, slice_get}
use Rattle.std.proofs.Math.ListN.{set}
use Rattle.std.proofs.lemmas.List.Elements.{All-cons, All-head, All-nil, All-tail}
use Rattle.std.proofs.lemmas.Option.{same_Some}

module _ {A B : Type 0} (R : A → B → Type 0) where
  -- the partner of an element
  pub zip-get : (xs : List A) (ys : List B) (i : ℕ) (x : A) → AllZip R xs ys → slice_get xs i ≡ Some x
      → (y : B) × (slice_get ys i ≡ Some y) × R x y
  zip-get [] ys i x zip here = let clash : None ≡ Some x = here in cc
  zip-get (x ∷ xs) [] i z zip here = absurd zip
  zip-get (x ∷ xs) (y ∷ ys) zero z zip here = (y, refl, subst (λ (w : A). R w y) (same_Some _ _ here) zip.0)
  zip-get (x ∷ xs) (y ∷ ys) (suc i) z zip here = zip-get xs ys i z zip.1 here

  -- an element is replaced by one whose partners are those of the old one
  pub zip-set : (xs : List A) (ys : List B) (i : ℕ) (x new : A) → slice_get xs i ≡ Some x → ((y : B) → R x y → R new y)
      → AllZip R xs ys → AllZip R (set xs i new) ys
  zip-set [] ys i x new here more zip = let clash : None ≡ Some x = here in cc
  zip-set (x ∷ xs) [] i z new here more zip = absurd zip
  zip-set (x ∷ xs) (y ∷ ys) zero z new here more zip =
      (more y (subst (λ (w : A). R w y) (same_Some _ _ here) zip.0), zip.1)
  zip-set (x ∷ xs) (y ∷ ys) (suc i) z new here more zip = (zip.0, zip-set xs ys i z new here more zip.1)

  -- and back
  pub zip-unset : (xs : List A) (ys : List B) (i : ℕ) (x new : A) → slice_get xs i ≡ Some x → ((y : B) → R new y → R x y)
      → AllZip R (set xs i new) ys → AllZip R xs ys
  zip-unset [] ys i x new here less zip = let clash : None ≡ Some x = here in cc
  zip-unset (x ∷ xs) [] zero z new here less zip = absurd zip
  zip-unset (x ∷ xs) [] (suc i) z new here less zip = absurd zip
  zip-unset (x ∷ xs) (y ∷ ys) zero z new here less zip =
      (subst (λ (w : A). R w y) (sym (same_Some _ _ here)) (less y zip.0), zip.1)
  zip-unset (x ∷ xs) (y ∷ ys) (suc i) z new here less zip = (zip.0, zip-unset xs ys i z new here less zip.1)

-- what each partner of such an element is, each partner is
pub zip-all : {A B : Type 0} (P : A → Type 0) (R : A → B → Type 0) (Q : B → Type 0) → ((x : A) (y : B) → P x → R x y → Q y)
    → (xs : List A) (ys : List B) → All P xs → AllZip R xs ys → All Q ys
zip-all P R Q so [] [] all zip = All-nil Q
zip-all P R Q so [] (y ∷ ys) all zip = absurd zip
zip-all P R Q so (x ∷ xs) [] all zip = absurd zip
zip-all P R Q so (x ∷ xs) (y ∷ ys) all zip =
    All-cons Q y ys (so x y (All-head P x xs all) zip.0) (zip-all P R Q so xs ys (All-tail P x xs all) zip.1)

module _ {A : Type 0} (P : A → Type 0) where
  pub all-get : (xs : List A) (i : ℕ) (x : A) → All P xs → slice_get xs i ≡ Some x → P x
  all-get [] i x all here = let clash : None ≡ Some x = here in cc
  all-get (x ∷ xs) zero z all here = subst P (same_Some _ _ here) (All-head P x xs all)
  all-get (x ∷ xs) (suc i) z all here = all-get xs i z (All-tail P x xs all) here

  pub all-set : (xs : List A) (i : ℕ) (new : A) → All P xs → P new → All P (set xs i new)
  all-set [] i new all is = All-nil P
  all-set (x ∷ xs) zero new all is = All-cons P new xs is (All-tail P x xs all)
  all-set (x ∷ xs) (suc i) new all is =
      All-cons P x (set xs i new) (All-head P x xs all) (all-set xs i new (All-tail P x xs all) is)

-- what is taken of each stays where one is replaced by one of which the same is taken
pub map-set : {A B : Type 0} (f : A → B) (xs : List A) (i : ℕ) (x new : A) → slice_get xs i ≡ Some x → f new ≡ f x
    → map f (set xs i new) ≡ map f xs
map-set f [] i x new here same = refl
map-set f (x ∷ xs) zero z new here same = ap (λ y. y ∷ map f xs) (same ∙ ap f (sym (same_Some _ _ here)))
map-set f (x ∷ xs) (suc i) z new here same = ap (λ ys. f x ∷ ys) (map-set f xs i z new here same)

-- the i-th of what is taken of each
pub get-map : {A B : Type 0} (f : A → B) (xs : List A) (i : ℕ) (y : B) → slice_get (map f xs) i ≡ Some y
    → (x : A) × (slice_get xs i ≡ Some x) × (f x ≡ y)
get-map f [] i y here = let clash : None ≡ Some y = here in cc
get-map f (x ∷ xs) zero y here = (x, refl, same_Some _ _ here)
get-map f (x ∷ xs) (suc i) y here = get-map f xs i y here

pub get-set : {X : Type 0} (xs : List X) (i : ℕ) (x new : X) → slice_get xs i ≡ Some x → slice_get (set xs i new) i ≡ Some new
get-set [] i x new here = let clash : None ≡ Some x = here in cc
get-set (y ∷ ys) zero x new here = refl
get-set (y ∷ ys) (suc i) x new here = get-set ys i x new here

-- what is said of a value that is answered
pub ok-some : {X E : Type 0} (r : Result (Option X) E) (P Q : X → Type 0) → ((x : X) → P x → Q x)
    → IfOk r (λ answer. IfSome answer P) → IfOk r (λ answer. IfSome answer Q)
ok-some (Ok (Some x)) P Q f h = f x h
ok-some (Ok None) P Q f h = tt
ok-some (Err e) P Q f h = tt

pub ok-one : {X E : Type 0} (r : Result X E) (P Q : X → Type 0) → ((x : X) → P x → Q x) → IfOk r P → IfOk r Q
ok-one (Ok x) P Q f h = f x h
ok-one (Err e) P Q f h = tt
