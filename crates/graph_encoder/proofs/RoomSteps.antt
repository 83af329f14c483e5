-- Lists that have room in the block of another.
use Rattle.std.proofs.Common.{◌≡◌, ℕ, zero, suc, ◌-◌, ◌≤◌, List, [], ◌∷◌, length, map, take, drop, slice_range, arith}
use Rattle.std.specs.List.{range_with_len}
use Rattle.std.proofs.lemmas.List.FromFn.{length-map-range_with_len}

pub none-room : (cap : ℕ) → 0 ≤ cap
none-room cap = omega arith

take-room : {X : Type 0} (n : ℕ) (xs : List X) → length (take n xs) ≤ length xs
take-room zero xs = omega arith
take-room (suc n) [] = omega arith
take-room (suc n) (x ∷ xs) = omega (arith, take-room n xs)

drop-room : {X : Type 0} (n : ℕ) (xs : List X) → length (drop n xs) ≤ length xs
drop-room zero xs = omega arith
drop-room (suc n) [] = omega arith
drop-room (suc n) (x ∷ xs) = omega (arith, drop-room n xs)

-- a part of a list
pub part-room : {X : Type 0} (xs : List X) (a b len cap : ℕ) → (len ≡ length xs) × (len ≤ cap)
    → length (slice_range xs a b) ≤ cap
part-room xs a b len cap ok = omega (arith, take-room (b - a) (drop a xs), drop-room a xs, ok.0, ok.1)

-- as many values as a list has
pub map-room : {X : Type 0} (f : ℕ → X) (xs : List ℕ) (len cap : ℕ) → (len ≡ length xs) × (len ≤ cap)
    → length (map f (range_with_len 0 (length xs))) ≤ cap
map-room f xs len cap ok = omega (arith, length-map-range_with_len f 0 (length xs), ok.0, ok.1)
