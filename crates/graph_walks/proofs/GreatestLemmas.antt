-- The greatest of some numbers is a bound of them, and one of them.
use Rattle.std.proofs.Common.{◌≡◌, ℕ, suc, zero, ◌<◌, ◌≤◌, max, fold, List, [], ◌∷◌, map, slice_get, Some, refl, ap, ⊎_elim}
use Rattle.std.proofs.Common.{arith}
use Rattle.std.proofs.lemmas.Option.{same_Some, none-some}
use Rattle.std.proofs.lemmas.Bool.{cases_lt}
use Rattle.graph_walks.specs.Counts.{greatest}

-- a fold that begins with a number is no less than that number
max_from : (a : ℕ) (ns : List ℕ) → fold max a ns ≡ max a (greatest ns)
max_from a [] = omega arith
max_from a (n ∷ ns) = omega (arith, max_from (max a n) ns, max_from (max 0 n) ns)

pub greatest-cons : (n : ℕ) (ns : List ℕ) → greatest (n ∷ ns) ≡ max n (greatest ns)
greatest-cons n ns = omega (arith, max_from (max 0 n) ns)

pub greatest_bounds : {A : Type 0} (f : A → ℕ) (xs : List A) (k : ℕ) (x : A) → slice_get xs k ≡ Some x → f x ≤ greatest (map f xs)
greatest_bounds f [] k x at = absurd (none-some x at)
greatest_bounds f (y ∷ ys) zero x at =
    let same : f y ≡ f x = ap f (same_Some y x at) in
    omega (arith, greatest-cons (f y) (map f ys))
greatest_bounds f (y ∷ ys) (suc k) x at =
    let bound : f x ≤ greatest (map f ys) = greatest_bounds f ys k x at in
    omega (arith, greatest-cons (f y) (map f ys))

pub greatest_reached : {A : Type 0} (f : A → ℕ) (xs : List A) → 0 < greatest (map f xs) → (k : ℕ) × (x : A)
    × (slice_get xs k ≡ Some x) × (f x ≡ greatest (map f xs))
greatest_reached f [] positive = absurd (omega arith)
greatest_reached {A} f (y ∷ ys) positive =
    let cons = greatest-cons (f y) (map f ys) in
    ⊎_elim
    (λ (lt : f y < greatest (map f ys)).
    let found : (k : ℕ) × (x : A) × (slice_get ys k ≡ Some x) × (f x ≡ greatest (map f ys)) =
    greatest_reached f ys (omega arith) in
    let same : f found.1 ≡ greatest (map f ys) = found.3 in
    (suc found.0, found.1, found.2, omega arith))
    (λ (le : greatest (map f ys) ≤ f y). (0, y, refl, omega arith))
    (cases_lt (f y) (greatest (map f ys)))
