-- The places of numbers in a list, as they are put into a hash table.
use Rattle.std.proofs.Common.{◌≡◌, ◌⊎◌, ℕ, suc, zero, ◌+◌, ◌<◌, ◌≤◌, List, [], ◌∷◌, ◌++◌, length, take, get_or, refl}
use Rattle.std.proofs.Common.{sym, ap, ◌∙◌, subst, inl, inr, ⊎_elim, arith}
use Rattle.std.proofs.lemmas.Bool.{cases_lt}
use Rattle.std.proofs.lemmas.List.{length_push, take_more, length-take-le}
use Rattle.commit_search.specs.HashTable.{StandsAt, HasPlacesOf, Puts}
use Rattle.commit_search.proofs.HashTableLemmas.{same_len, stands_kept, stands_new, within_new}

-- The places of a list and of one more.

pub old_place : (xs : List ℕ) (x i : ℕ) → i < length xs → get_or (xs ++ x ∷ []) i 0 ≡ get_or xs i 0
old_place [] x i lt = absurd (omega (arith, lt))
old_place (y ∷ ys) x zero lt = refl
old_place (y ∷ ys) x (suc i) lt = old_place ys x i (omega (arith, lt))

last_place : (xs : List ℕ) (x : ℕ) → get_or (xs ++ x ∷ []) (length xs) 0 ≡ x
last_place [] x = refl
last_place (y ∷ ys) x = last_place ys x

pub new_place : (xs : List ℕ) (x i : ℕ) → i ≡ length xs → get_or (xs ++ x ∷ []) i 0 ≡ x
new_place xs x i e = ap (λ (k : ℕ). get_or (xs ++ x ∷ []) k 0) e ∙ last_place xs x

pub place_cases : (xs : List ℕ) (x i : ℕ) → i < length (xs ++ x ∷ []) → (i < length xs) ⊎ (i ≡ length xs)
place_cases xs x i lt =
    ⊎_elim
    (λ (lo : i < length xs). inl lo)
    (λ (hi : length xs ≤ i). inr (omega (arith, lt, hi, length_push xs x)))
    (cases_lt i (length xs))

-- the place of a number is put into an empty slot
module _ (old new : List ℕ) (n p : ℕ) (puts : Puts old new n p) where
  pub listed_put : (numbers : List ℕ) (m : ℕ) → m ≡ n → p ≡ length numbers → HasPlacesOf old numbers
      → HasPlacesOf new (numbers ++ m ∷ [])
  listed_put numbers m same place listed = record {
    few = omega (arith, listed.few, same_len old new n p puts);
    within = λ i.
        omega (
          arith,
          within_new old new n p puts i (length numbers) (listed.within i) (omega (arith, place)),
          length_push numbers m,
        );
    stand = λ q lt.
        ⊎_elim
        (λ (lo : q < length numbers).
        subst (λ (x : ℕ). StandsAt new x q) (sym (old_place numbers m q lo))
        (stands_kept old new n p puts _ q (listed.stand q lo)))
        (λ (hi : q ≡ length numbers).
        subst (λ (k : ℕ). StandsAt new (get_or (numbers ++ m ∷ []) k 0) k) (place ∙ sym hi)
        (subst (λ (x : ℕ). StandsAt new x p) (sym (new_place numbers m p place ∙ same)) (stands_new old new n p puts)))
        (place_cases numbers m q lt);
  }

  -- of a list of numbers, those before a place stand in the table, and then that one does
  pub listed_more : (numbers : List ℕ) → p < length numbers → get_or numbers p 0 ≡ n → HasPlacesOf old (take p numbers)
      → HasPlacesOf new (take (p + 1) numbers)
  listed_more numbers lt same listed =
      subst (HasPlacesOf new) (sym (take_more numbers p 0 lt))
      (listed_put (take p numbers) (get_or numbers p 0) same (sym (length-take-le p numbers (omega (arith, lt)))) listed)
