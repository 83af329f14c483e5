-- the greatest and the least of some numbers, and how often each number stands among them
use Rattle.std.specs.Prelude.{◌==◌, ℕ, zero, suc, List, [], ◌∷◌, fold, max, min, count_by, Option, Some, None}

-- the greatest of some numbers, 0 where there are none
abbrev pub greatest : List ℕ → ℕ
greatest numbers = fold max 0 numbers

-- the least of them, 0 where there are none
abbrev pub least : List ℕ → ℕ
least [] = 0
least (n ∷ numbers) = fold min n numbers

-- a count, kept only above 0
abbrev pub above_zero : ℕ → Option ℕ
above_zero zero = None
above_zero (suc n) = Some (suc n)

-- how often a number stands among numbers, where it does
abbrev pub count_of : List ℕ → ℕ → Option ℕ
count_of numbers k = above_zero (count_by (λ n. n == k) numbers)
