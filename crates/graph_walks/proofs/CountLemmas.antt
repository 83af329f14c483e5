-- Numbers, counted by which number they are: the counts add up to how many numbers there are.
use Rattle.std.proofs.Common.{◌≡◌, ◌==◌, nat_eq, ℕ, zero, suc, ◌+◌, Bool, true, false, cond, not, List, [], ◌∷◌, length, filter}
use Rattle.std.proofs.Common.{Some, None, sum, count_by, refl, sym, ap, ◌∙◌, arith, zero-add, ⊎_elim}
use Rattle.std.specs.List.{AllByRecursion, IsDistinct}
use Rattle.std.specs.Map.{keys_of, values_of, lookup}
use Rattle.std.proofs.lemmas.Bool.{cases_Bool, cond-true, cond-false, eqb-true, eq-eqb}
use Rattle.std.proofs.lemmas.Cmp.{nat_eq_equiv}
use Rattle.std.proofs.lemmas.List.Sums.{sum_by-cons, length-filter}
use Rattle.std.proofs.lemmas.List.Filters.{length-filter_both}
use Rattle.std.proofs.lemmas.Map.Keys.{IsDistinct-head, IsDistinct-tail}
use Rattle.graph_walks.specs.Counts.{above_zero, count_of}

-- the numbers that are not k
abbrev others : ℕ → List ℕ → List ℕ
others k numbers = filter (λ n. not (n == k)) numbers

-- how many numbers are k
abbrev count : ℕ → List ℕ → ℕ
count k numbers = count_by (λ n. n == k) numbers

count-cons : (k n : ℕ) (numbers : List ℕ) (b : Bool) → (n == k) ≡ b → count k (n ∷ numbers) ≡ cond b 1 0 + count k numbers
count-cons k n numbers b here = sum_by-cons (λ m. cond (m == k) 1 0) n numbers ∙ ap (λ b. cond b 1 0 + count k numbers) here

count-same : (k n : ℕ) (numbers : List ℕ) → (n == k) ≡ true → count k (n ∷ numbers) ≡ 1 + count k numbers
count-same k n numbers here = count-cons k n numbers true here

count-apart : (k n : ℕ) (numbers : List ℕ) → (n == k) ≡ false → count k (n ∷ numbers) ≡ count k numbers
count-apart k n numbers here = count-cons k n numbers false here ∙ zero-add (count k numbers)

step_same : (k n : ℕ) (rest : List ℕ) (b : Bool) → (n == k) ≡ b → count k rest ≡ 0 → count k (cond (not b) (n ∷ rest) rest) ≡ 0
step_same k n rest true here none = none
step_same k n rest false here none = count-apart k n rest here ∙ none

-- without k there is no k
count-others_same : (k : ℕ) (numbers : List ℕ) → count k (others k numbers) ≡ 0
count-others_same k [] = refl
count-others_same k (n ∷ numbers) = step_same k n (others k numbers) (n == k) refl (count-others_same k numbers)

step_apart : (k q n : ℕ) (numbers rest : List ℕ) (b : Bool) → (k == q) ≡ false → (n == k) ≡ b → count q rest ≡ count q numbers
    → count q (cond (not b) (n ∷ rest) rest) ≡ count q (n ∷ numbers)
step_apart k q n numbers rest true apart here same =
    same ∙ sym (count-apart q n numbers (ap (λ (m : ℕ). m == q) (eqb-true n k here) ∙ apart))
step_apart k q n numbers rest false apart here same =
    count-cons q n rest (n == q) refl ∙ ap (λ (m : ℕ). cond (n == q) 1 0 + m) same ∙ sym (count-cons q n numbers (n == q) refl)

-- and of each other number as many as before
count-others : (k q : ℕ) (numbers : List ℕ) → (k == q) ≡ false → count q (others k numbers) ≡ count q numbers
count-others k q [] apart = refl
count-others k q (n ∷ numbers) apart =
    step_apart k q n numbers (others k numbers) (n == k) apart refl (count-others k q numbers apart)

-- with k and the rest counted apart, all are counted
length-others : (k : ℕ) (numbers : List ℕ) → count k numbers + length (others k numbers) ≡ length numbers
length-others k numbers =
    ap (λ n. n + length (others k numbers)) (sym (length-filter (λ n. n == k) numbers))
    ∙ length-filter_both (λ n. n == k) (λ n. not (n == k)) (λ n. refl) numbers

counted : (m v : ℕ) → above_zero m ≡ Some v → m ≡ v
counted zero v h = cc
counted (suc m) v h = cc

none_counted : (m : ℕ) → above_zero m ≡ None → m ≡ 0
none_counted zero h = refl
none_counted (suc m) h = cc

-- entries whose keys are told apart by e, which is `==`
module _ (e : ℕ → ℕ → Bool) (ties : (a b : ℕ) → e a b ≡ (a == b)) where
  -- each key has the count of its number, and each number is a key
  abbrev pub AreCounts : List (ℕ × ℕ) → List ℕ → Type 0
  AreCounts entries numbers = (k : ℕ) → lookup (e k) entries ≡ count_of numbers k

  no_numbers : (numbers : List ℕ) → AreCounts [] numbers → length numbers ≡ 0
  no_numbers [] counts = refl
  no_numbers (n ∷ numbers) counts =
      let none : count n (n ∷ numbers) ≡ 0 = none_counted _ (sym (counts n)) in
      let more : count n (n ∷ numbers) ≡ 1 + count n numbers = count-same n n numbers (eq-eqb n n refl) in
      absurd (omega (arith, none, more))

  none_at : (k : ℕ) (entries : List (ℕ × ℕ)) → AllByRecursion (λ q. e k q ≡ false) (keys_of entries) → lookup (e k) entries ≡ None
  none_at k [] apart = refl
  none_at k (entry ∷ entries) apart = cond-false _ _ _ apart.0 ∙ none_at k entries apart.1

  -- without the first key, its number is left out
  counts-rest : (entry : ℕ × ℕ) (entries : List (ℕ × ℕ)) (numbers : List ℕ) → IsDistinct e (keys_of (entry ∷ entries))
      → AreCounts (entry ∷ entries) numbers → AreCounts entries (others entry.0 numbers)
  counts-rest entry entries numbers apart counts q = ⊎_elim same other (cases_Bool (q == entry.0))
    where
      none_left : lookup (e entry.0) entries ≡ None
      none_left = none_at entry.0 entries (IsDistinct-head e entry.0 (keys_of entries) apart)

      same : (q == entry.0) ≡ true → lookup (e q) entries ≡ count_of (others entry.0 numbers) q
      same h =
          let is : q ≡ entry.0 = eqb-true q entry.0 h in
          ap (λ (n : ℕ). lookup (e n) entries) is
          ∙ none_left
          ∙ sym (ap (λ (n : ℕ). count_of (others entry.0 numbers) n) is ∙ ap above_zero (count-others_same entry.0 numbers))

      other : (q == entry.0) ≡ false → lookup (e q) entries ≡ count_of (others entry.0 numbers) q
      other h =
          sym (cond-false _ _ _ (ties q entry.0 ∙ h))
          ∙ counts q
          ∙ sym (ap above_zero (count-others entry.0 q numbers (nat_eq_equiv.symm entry.0 q ∙ h)))

  -- where the keys differ, the values add up to how many numbers there are
  pub counts_add_up : (entries : List (ℕ × ℕ)) (numbers : List ℕ) → IsDistinct e (keys_of entries) → AreCounts entries numbers
      → sum (values_of entries) ≡ length numbers
  counts_add_up [] numbers apart counts = sym (no_numbers numbers counts)
  counts_add_up (entry ∷ entries) numbers apart counts =
      let here : e entry.0 entry.0 ≡ true = ties entry.0 entry.0 ∙ eq-eqb entry.0 entry.0 refl in
      let value : count entry.0 numbers ≡ entry.1 = counted _ _ (sym (counts entry.0) ∙ cond-true _ _ _ here) in
      let rest : sum (values_of entries) ≡ length (others entry.0 numbers) =
      counts_add_up entries (others entry.0 numbers) (IsDistinct-tail e entry.0 (keys_of entries) apart)
      (counts-rest entry entries numbers apart counts) in
      omega (arith, sum_by-cons (λ (x : ℕ). x) entry.1 (values_of entries), rest, value, length-others entry.0 numbers)
