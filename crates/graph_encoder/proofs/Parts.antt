-- parts of lists that are put together
use Rattle.std.specs.List.{range_with_len}
use Rattle.std.proofs.Common.{Some, map, slice_get, add-zero, ◌≡◌, ℕ, zero, suc, ◌+◌, ◌-◌, ◌<◌, List, [], ◌++◌, length, take}
use Rattle.std.proofs.Common.{slice_range, sym, ap, ◌∙◌, arith, append-nil}
use Rattle.std.proofs.lemmas.List.{take_at, drop_at}

-- the middle of three parts
pub slice_range-middle : {X : Type 0} (front middle back : List X) (i j : ℕ) → i ≡ length front → j ≡ length front + length middle
    → slice_range (front ++ (middle ++ back)) i j ≡ middle
slice_range-middle front middle back i j h e =
    ap (take (j - i)) (drop_at front (middle ++ back) i (sym h))
    ∙ take_at middle back (j - i) (omega arith)

-- the last of two parts
pub slice_range-last : {X : Type 0} (front back : List X) (i j : ℕ) → i ≡ length front → j ≡ length front + length back
    → slice_range (front ++ back) i j ≡ back
slice_range-last front back i j h e =
    ap (λ xs. slice_range (front ++ xs) i j) (sym (append-nil back))
    ∙ slice_range-middle front back [] i j h e

-- an element of a list made from a function of the index
pub get-map-range : {X : Type 0} (f : ℕ → X) (a n i : ℕ) → i < n → slice_get (map f (range_with_len a n)) i ≡ Some (f (a + i))
get-map-range f a zero i h = absurd (omega (arith, h))
get-map-range f a (suc n) zero h = ap (λ (k : ℕ). Some (f k)) (sym (add-zero a))
get-map-range f a (suc n) (suc i) h = get-map-range f (a + 1) n i (omega (arith, h)) ∙ ap (λ (k : ℕ). Some (f k)) (omega arith)
