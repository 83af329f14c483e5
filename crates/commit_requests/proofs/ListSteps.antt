-- Steps over lists.
use Rattle.std.proofs.Common.{◌≡◌, ℕ, zero, suc, ◌+◌, ◌<◌, ◌≤◌, List, [], ◌∷◌, ◌++◌, length, map, take, slice_get}
use Rattle.std.proofs.Common.{Contains, Some, refl, sym, ap, ◌∙◌, arith}
use Rattle.std.proofs.lemmas.List.{length-map, length-append, length-take, map-append, take-append-le, take_more}
use Rattle.std.proofs.lemmas.Option.{get_or_from_slice_get, none-some, same_Some, slice_get-get_or, slice_get_within}

pub contains_from_get : {X : Type 0} (xs : List X) (i : ℕ) (x : X) → slice_get xs i ≡ Some x → Contains xs x
contains_from_get xs i x at = (i, slice_get_within xs i x at, get_or_from_slice_get xs i x x at)

pub get_from_contains : {X : Type 0} (xs : List X) (x : X) → Contains xs x → (i : ℕ) × (slice_get xs i ≡ Some x)
get_from_contains xs x c = (c.0, slice_get-get_or xs c.0 x c.1 ∙ ap (λ y. Some y) c.2)

pub get_taken : {X : Type 0} (n : ℕ) (xs : List X) (i : ℕ) (x : X) → slice_get (take n xs) i ≡ Some x
    → (i < n) × (slice_get xs i ≡ Some x)
get_taken zero xs i x at = absurd (none-some x at)
get_taken (suc n) [] i x at = absurd (none-some x at)
get_taken (suc n) (y ∷ xs) zero x at = (omega arith, at)
get_taken (suc n) (y ∷ xs) (suc i) x at = let found = get_taken n xs i x at in (omega (arith, found.0), found.1)

pub taken_get : {X : Type 0} (n : ℕ) (xs : List X) (i : ℕ) (x : X) → i < n → slice_get xs i ≡ Some x
    → slice_get (take n xs) i ≡ Some x
taken_get zero xs i x lt at = absurd (omega (arith, lt))
taken_get (suc n) [] i x lt at = absurd (none-some x at)
taken_get (suc n) (y ∷ xs) zero x lt at = at
taken_get (suc n) (y ∷ xs) (suc i) x lt at = taken_get n xs i x (omega (arith, lt)) at

-- one more of the first
pub take_next : {X : Type 0} (xs : List X) (i : ℕ) (x : X) → slice_get xs i ≡ Some x → take (i + 1) xs ≡ take i xs ++ x ∷ []
take_next xs i x at =
    take_more xs i x (slice_get_within xs i x at) ∙ ap (λ y. take i xs ++ y ∷ []) (get_or_from_slice_get xs i x x at)

pub get_mapped : {X Y : Type 0} (f : X → Y) (xs : List X) (i : ℕ) (x : X) → slice_get xs i ≡ Some x
    → slice_get (map f xs) i ≡ Some (f x)
get_mapped f [] i x at = absurd (none-some x at)
get_mapped f (y ∷ xs) zero x at = ap (λ z. Some (f z)) (same_Some y x at)
get_mapped f (y ∷ xs) (suc i) x at = get_mapped f xs i x at

pub get_from_mapped : {X Y : Type 0} (f : X → Y) (xs : List X) (i : ℕ) (y : Y) → slice_get (map f xs) i ≡ Some y
    → (x : X) × (slice_get xs i ≡ Some x) × (f x ≡ y)
get_from_mapped f [] i y at = absurd (none-some y at)
get_from_mapped f (x ∷ xs) zero y at = (x, refl, same_Some (f x) y at)
get_from_mapped f (x ∷ xs) (suc i) y at = get_from_mapped f xs i y at

-- values of the first of some elements, and of the next one
module _ {X Y : Type 0} (f : X → Y) (xs : List X) (ys : List Y) (own : map f xs ≡ take (length xs) ys) where
  pub values_within : length xs ≤ length ys
  values_within = omega (arith, ap length own, length-map xs f, length-take (length xs) ys)

  pub values_next : (x : X) → slice_get ys (length xs) ≡ Some (f x) → map f (xs ++ x ∷ []) ≡ take (length (xs ++ x ∷ [])) ys
  values_next x at =
      map-append f xs (x ∷ []) ∙ ap (λ zs. zs ++ f x ∷ []) own ∙ sym (take_next ys (length xs) (f x) at)
      ∙ ap (λ n. take n ys) (sym (length-append xs (x ∷ [])))

  pub values_more : (more : List Y) → map f xs ≡ take (length xs) (ys ++ more)
  values_more more = own ∙ sym (take-append-le (length xs) ys more values_within)
