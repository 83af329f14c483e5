-- Sums over lists that have each number below some number once.
use Rattle.std.proofs.Common.{◌≡◌, ℕ, zero, suc, ◌+◌, ◌<◌, List, [], ◌∷◌, ◌++◌, map, length, Contains, refl, ap}
use Rattle.std.proofs.Common.{inl, inr, subst, arith}
use Rattle.std.specs.List.{sum_by, range_with_len}
use Rattle.std.proofs.lemmas.List.{length-append}
use Rattle.std.proofs.lemmas.List.Elements.{Contains-append_left, Contains-append_right, Contains-append_cases}
use Rattle.std.proofs.lemmas.List.FromFn.{sum_by-map-range_with_len_more}
use Rattle.std.proofs.lemmas.List.Sums.{sum_by-append, sum_by-cons}

-- what stands before an element, and after it
split-at : (x : ℕ) (xs : List ℕ) → Contains xs x → (front back : List ℕ) × (xs ≡ front ++ x ∷ back)
split-at x [] (k, lt, at) = absurd (omega arith)
split-at x (y ∷ ys) (zero, lt, at) = ([], ys, ap (λ (z : ℕ). z ∷ ys) at)
split-at x (y ∷ ys) (suc k, lt, at) =
    let more = split-at x ys (k, omega arith, at) in
    (y ∷ more.0, more.1, ap (λ (zs : List ℕ). y ∷ zs) more.2)

-- an element of a list without one other is still there
without : (x i : ℕ) (front back : List ℕ) → i < x → Contains (front ++ x ∷ back) i → Contains (front ++ back) i
without x i front back lt here =
    elim (Contains-append_cases front (x ∷ back) i here) [
      | inl before ↦ Contains-append_left front back i before
      | inr after ↦ Contains-append_right front back i (behind after)
    ]
  where
    behind : Contains (x ∷ back) i → Contains back i
    behind (zero, inside, at) = absurd (omega (arith, at))
    behind (suc k, inside, at) = (k, omega arith, at)

-- so many numbers that are all those below have the same sum as they
pub sum-all : (w : ℕ → ℕ) (n : ℕ) (xs : List ℕ) → length xs ≡ n → ((i : ℕ) → i < n → Contains xs i)
    → sum_by w xs ≡ sum_by (λ x. x) (map w (range_with_len 0 n))
sum-all w zero [] size all = refl
sum-all w zero (x ∷ xs) size all = absurd (omega (arith, size))
sum-all w (suc n) xs size all =
    let cut = split-at n xs (all n (omega arith)) in
    let front = cut.0 in
    let back = cut.1 in
    let fewer : length (front ++ back) ≡ n =
    omega (
      arith,
      size,
      ap length cut.2,
      length-append front (n ∷ back),
      length-append front back,
    ) in
    let rest : sum_by w (front ++ back) ≡ sum_by (λ x. x) (map w (range_with_len 0 n)) =
    sum-all w n (front ++ back) fewer
    (λ i lt. without n i front back lt (subst (λ (ys : List ℕ). Contains ys i) cut.2 (all i (omega arith)))) in
    let next : sum_by (λ x. x) (map w (range_with_len 0 (n + 1))) ≡ sum_by (λ x. x) (map w (range_with_len 0 n)) + w n =
    sum_by-map-range_with_len_more (λ x. x) w 0 n n (omega arith) in
    let one_more : suc n ≡ n + 1 = omega arith in
    let last : sum_by (λ x. x) (map w (range_with_len 0 (suc n))) ≡ sum_by (λ x. x) (map w (range_with_len 0 (n + 1))) =
    ap (λ (m : ℕ). sum_by (λ x. x) (map w (range_with_len 0 m))) one_more in
    omega (
      arith,
      ap (sum_by w) cut.2,
      sum_by-append w front (n ∷ back),
      sum_by-cons w n back,
      sum_by-append w front back,
      rest,
      next,
      last,
    )
