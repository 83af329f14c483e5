-- the fan that counts ids
use Rattle.std.proofs.Common.{◌≡◌, ℕ, ◌+◌, ◌^◌, ◌<◌, ◌≤◌, List, [], ◌∷◌, length, map, slice_index, nat_le, All, Bool, cond, true}
use Rattle.std.proofs.Common.{false, refl, ap, ◌∙◌, arith}
use Rattle.std.specs.Prelude.{count_by}
use Rattle.std.specs.List.{range_with_len}
use Rattle.std.proofs.lemmas.Bool.{le-leb, leb-true, false≢true}
use Rattle.std.proofs.lemmas.List.FromFn.{get_or-map-range_with_len, length-map-range_with_len}
use Rattle.std.proofs.lemmas.List.Sums.{count_by-le-length, sum_by_from}
use Rattle.graph_encoder.specs.Written.{ids_up_to, exact_fan}
use Rattle.graph_encoder.proofs.Pieces.{All-first, All-others}

-- the first item counts, and the others
pub count_by-cons : {X : Type 0} (p : X → Bool) (x : X) (xs : List X) → count_by p (x ∷ xs) ≡ cond (p x) 1 0 + count_by p xs
count_by-cons p x xs = sum_by_from (λ y. cond (p y) 1 0) (0 + cond (p x) 1 0) xs ∙ ap (λ (n : ℕ). n + count_by p xs) (omega arith)

-- a test that passes more counts more
more-counted : (a b : Bool) → (a ≡ true → b ≡ true) → cond a 1 0 ≤ cond b 1 0
more-counted true true h = omega arith
more-counted true false h = absurd (false≢true (h refl))
more-counted false b h = omega arith

count_by-mono : {X : Type 0} (p q : X → Bool) (xs : List X) → ((x : X) → p x ≡ true → q x ≡ true) → count_by p xs ≤ count_by q xs
count_by-mono p q [] h = omega arith
count_by-mono p q (x ∷ xs) h =
    omega (arith, count_by-cons p x xs, count_by-cons q x xs, more-counted (p x) (q x) (h x), count_by-mono p q xs h)

ids_up_to-all : (ids : List (List ℕ)) → All (λ id. slice_index id 0 < 256) ids → ids_up_to 255 ids ≡ length ids
ids_up_to-all [] h = refl
ids_up_to-all (id ∷ ids) h =
    let P : List ℕ → Type 0 = λ name. slice_index name 0 < 256 in
    let counted : ◌≡◌ {A = ℕ} (cond (nat_le (slice_index id 0) 255) 1 0) 1 =
    ap (λ (b : Bool). cond b 1 0) (le-leb (slice_index id 0) 255 (omega (arith, All-first P id ids h))) in
    omega (
      arith,
      count_by-cons (λ name. nat_le (slice_index name 0) 255) id ids,
      counted,
      ids_up_to-all ids (All-others P id ids h),
    )

pub ids_up_to-rising : (ids : List (List ℕ)) (b : ℕ) → ids_up_to b ids ≤ ids_up_to (b + 1) ids
ids_up_to-rising ids b = count_by-mono (λ id. nat_le (slice_index id 0) b) (λ id. nat_le (slice_index id 0) (b + 1)) ids (λ id h.
    le-leb _ _ (omega (arith, leb-true _ _ h)))

pub length-exact_fan : (ids : List (List ℕ)) → length (exact_fan ids) ≡ 256
unfolding exact_fan
length-exact_fan ids = length-map-range_with_len (λ byte. ids_up_to byte ids) 0 256

pub exact_fan-at : (ids : List (List ℕ)) (b : ℕ) → b < 256 → slice_index (exact_fan ids) b ≡ ids_up_to b ids
unfolding exact_fan
exact_fan-at ids b h = get_or-map-range_with_len (λ byte. ids_up_to byte ids) 0 256 b b 0 h (omega arith)

All-map-range : (f : ℕ → ℕ) (bound a n : ℕ) → ((i : ℕ) → f i < bound) → All (λ k. k < bound) (map f (range_with_len a n))
All-map-range f bound a n h =
    λ k d i. omega
    (arith, h (a + k), get_or-map-range_with_len f a n k (a + k) d (omega (arith, i, length-map-range_with_len f a n)) refl)

pub exact_fan-small : (ids : List (List ℕ)) → length ids < 2 ^ 32 → All (λ n. n < 2 ^ 32) (exact_fan ids)
unfolding exact_fan
exact_fan-small ids h = All-map-range (λ byte. ids_up_to byte ids) (2 ^ 32) 0 256 (λ b.
    omega (arith, h, count_by-le-length (λ id. nat_le (slice_index id 0) b) ids))

pub exact_fan-last : (ids : List (List ℕ)) → All (λ id. slice_index id 0 < 256) ids → slice_index (exact_fan ids) 255 ≡ length ids
exact_fan-last ids h = exact_fan-at ids 255 (omega arith) ∙ ids_up_to-all ids h
