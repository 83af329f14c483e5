-- A table of bits for numbers that are marked, as numbers are marked and cleared in it.
use Rattle.std.proofs.Common.{◌≡◌, ◌≢◌, ◌↔◌, ℕ, suc, zero, ◌*◌, ◌/◌, ◌%◌, ◌^◌, ◌<◌, ◌≤◌, List, [], ◌∷◌, ◌++◌, length, set}
use Rattle.std.proofs.Common.{◌+◌, take, get_or, bit_or, w64, refl, sym, ap, ◌∙◌, subst, ⊎_elim, arith}
use Rattle.std.specs.Int.{bit_at}
use Rattle.std.proofs.lemmas.Bool.{cases_lt, cases_eq}
use Rattle.std.proofs.lemmas.List.{take_more, length-set, get_or-set_same, get_or-set_other}
use Rattle.std.proofs.lemmas.Option.{slice_get-get_or}
use Rattle.std.proofs.lemmas.Nat.Bits.{bit_at_set_same, bit_at_set_other, bit_at-zero}
use Rattle.std.specs.Option.{option_map_or}
use Rattle.commit_search.specs.Marks.{Marking, Marked, IsMarked, number_in, bit_of, AreMarks, marked_at}
use Rattle.commit_search.proofs.QueueLemmas.{marked_new, marked_old, marked_cases}

module _ (bits : List ℕ) (n : ℕ) (inside : n < 64 * length bits) (word : ℕ) where
  bit_same_word : (m : ℕ) → m / 64 ≡ n / 64 → bit_of (set bits (n / 64) word) m ≡ bit_at word (m % 64)
  bit_same_word m same =
      ap (λ k. bit_at (get_or (set bits (n / 64) word) k 0) (m % 64)) same
      ∙ ap (λ w. bit_at w (m % 64)) (get_or-set_same bits (n / 64) word 0 (omega arith))

  bit_other_word : (m : ℕ) → m / 64 ≢ n / 64 → bit_of (set bits (n / 64) word) m ≡ bit_of bits m
  bit_other_word m apart = ap (λ w. bit_at w (m % 64)) (get_or-set_other bits (n / 64) (m / 64) word 0 apart)

past_end : (bits : List ℕ) (k : ℕ) → length bits ≤ k → get_or bits k 0 ≡ 0
past_end [] k le = refl
past_end (x ∷ xs) zero le = absurd (omega arith)
past_end (x ∷ xs) (suc k) le = past_end xs k (omega arith)

-- there are words more, with no bit set
pub are_marks-grown : (bits after : List ℕ) (n : ℕ) (marked : List Marked) → length bits ≤ n → length after ≡ n
    → ((k : ℕ) → k < length bits → get_or after k 0 ≡ get_or bits k 0)
    → ((k : ℕ) → length bits ≤ k → k < n → get_or after k 0 ≡ 0) → AreMarks bits marked → AreMarks after marked
are_marks-grown bits after n marked more len old new are = record {
  within = λ m is. omega (arith, are.within m is);
  those = λ m. subst (λ (w : ℕ). (bit_at w (m % 64) ≡ 1) ↔ IsMarked marked m) (sym (same (m / 64))) (are.those m);
} where
  same : (k : ℕ) → get_or after k 0 ≡ get_or bits k 0
  same k =
      ⊎_elim
      (λ (lo : k < length bits). old k lo)
      (λ (hi : length bits ≤ k).
      ⊎_elim
      (λ (lt : k < n). new k hi lt ∙ sym (past_end bits k hi))
      (λ (le : n ≤ k). past_end after k (omega arith) ∙ sym (past_end bits k hi))
      (cases_lt k n))
      (cases_lt k (length bits))

-- the word of a number, with its bit set
abbrev pub with_bit : ℕ → ℕ → ℕ
with_bit word n = bit_or word (1 * 2 ^ (n % 64) % 2 ^ 64)

module _ (bits : List ℕ) (n : ℕ) (inside : n < 64 * length bits) (word : ℕ) (read : word ≡ get_or bits (n / 64) 0) where
  bit_here : bit_of (set bits (n / 64) (with_bit word n)) n ≡ 1
  bit_here = bit_same_word bits n inside (with_bit word n) n refl ∙ bit_at_set_same w64 word (n % 64) (omega arith)

  bit_there : (m : ℕ) → m ≢ n → bit_of (set bits (n / 64) (with_bit word n)) m ≡ bit_of bits m
  bit_there m other =
      ⊎_elim
      (λ (same : m / 64 ≡ n / 64).
      bit_same_word bits n inside (with_bit word n) m same
      ∙ bit_at_set_other w64 word (n % 64) (omega arith) (m % 64) (λ e. other (omega arith))
      ∙ ap (λ w. bit_at w (m % 64)) read
      ∙ ap (λ k. bit_at (get_or bits k 0) (m % 64)) (sym same))
      (λ (apart : m / 64 ≢ n / 64). bit_other_word bits n inside (with_bit word n) m apart)
      (cases_eq (m / 64) (n / 64))

  -- a number is marked
  pub are_marks-set : (marked : List Marked) (e : Marked) → e.number ≡ n → AreMarks bits marked
      → AreMarks (set bits (n / 64) (with_bit word n)) (marked ++ e ∷ [])
  are_marks-set marked e number are = record {
    within = λ m is.
        ⊎_elim
        (λ (old : IsMarked marked m). omega (arith, are.within m old, length-set bits (n / 64) (with_bit word n)))
        (λ (here : e.number ≡ m). omega (arith, length-set bits (n / 64) (with_bit word n)))
        (marked_cases marked e m is);
    those = λ m.
        ⊎_elim
        (λ (same : m ≡ n). (
          (λ _. subst (IsMarked (marked ++ e ∷ [])) (number ∙ sym same) (marked_new marked e)),
          (λ _. ap (bit_of (set bits (n / 64) (with_bit word n))) same ∙ bit_here),
        ))
        (λ (other : m ≢ n). (
          (λ bit. marked_old marked e m ((are.those m).0 (sym (bit_there m other) ∙ bit))),
          (λ is. bit_there m other ∙ (are.those m).1
              (⊎_elim
              (λ (old : IsMarked marked m). old)
              (λ (here : e.number ≡ m). absurd (other (sym here ∙ number)))
              (marked_cases marked e m is))),
        ))
        (cases_eq m n);
  }

-- none is marked where no bit is set
pub are_marks-none : (bits : List ℕ) → ((k : ℕ) → get_or bits k 0 ≡ 0) → AreMarks bits []
are_marks-none bits none = record {
  within = λ n is. absurd (let lt = is.1 in omega (arith, lt));
  those = λ n. (
    (λ bit. let clear = sym bit ∙ ap (λ w. bit_at w (n % 64)) (none (n / 64)) ∙ bit_at-zero (n % 64) in
        absurd (omega (arith, clear))),
    (λ is. absurd (let lt = is.1 in omega (arith, lt))),
  );
}

-- of a list of numbers, the bits of those before a place are set, and then that one is
pub are_marks-more : (bits : List ℕ) (n : ℕ) (marked : List Marked) (p : ℕ) → p < length marked → number_in marked p ≡ n
    → ((e : Marked) → e.number ≡ n → AreMarks bits (take p marked ++ e ∷ [])) → AreMarks bits (take (p + 1) marked)
are_marks-more bits n marked p lt number set_one =
    let none : Marked = record { number = 0; mark = 0 } in
    let at : number_in marked p ≡ (get_or marked p none).number =
    ap (λ o. option_map_or (λ (e : Marked). e.number) o 0) (slice_get-get_or marked p none lt) in
    subst (AreMarks bits) (sym (take_more marked p none lt)) (set_one (get_or marked p none) (sym at ∙ number))

-- While marks are cleared: each number whose bit is set is left.
pub record AreLeft (bits : List ℕ) (marked : List Marked) : Type 0 where
  pub within : (n : ℕ) → IsMarked marked n → n < 64 * length bits
  pub those : (n : ℕ) → bit_of bits n ≡ 1 → IsMarked marked n

pub inside_left : (bits : List ℕ) (marked : List Marked) (e : Marked) → AreLeft bits (marked ++ e ∷ [])
    → e.number < 64 * length bits
inside_left bits marked e left = left.within e.number (marked_new marked e)

pub are_left-clear : (bits : List ℕ) (marked : List Marked) (e : Marked) → AreLeft bits (marked ++ e ∷ [])
    → AreLeft (set bits (e.number / 64) 0) marked
are_left-clear bits marked e left =
    let inside = inside_left bits marked e left in
    record {
      within = λ n is. omega (arith, left.within n (marked_old marked e n is), length-set bits (e.number / 64) 0);
      those = λ n bit.
          ⊎_elim
          (λ (same : n / 64 ≡ e.number / 64).
          let none = sym bit ∙ bit_same_word bits e.number inside 0 n same ∙ bit_at-zero (n % 64) in
          absurd (omega (arith, none)))
          (λ (apart : n / 64 ≢ e.number / 64).
          ⊎_elim
          (λ (old : IsMarked marked n). old)
          (λ (here : e.number ≡ n). absurd (apart (ap (λ m. m / 64) (sym here))))
          (marked_cases marked e n (left.those n (sym (bit_other_word bits e.number inside 0 n apart) ∙ bit))))
          (cases_eq (n / 64) (e.number / 64));
    }

-- none is left
pub are_marks-left : (bits : List ℕ) (marked : List Marked) → marked ≡ [] → AreLeft bits marked → AreMarks bits marked
are_marks-left bits marked none left = record {
  within = left.within;
  those = λ n. (left.those n, (λ is. absurd (let lt = is.1 in omega (arith, lt, ap length none))));
}

-- Marks for each layer.

pub marked_at-push : (layers : List Marking) (one : Marking) (i : ℕ) → one.marked ≡ []
    → marked_at (layers ++ one ∷ []) i ≡ marked_at layers i
marked_at-push [] one zero none = none
marked_at-push [] one (suc i) none = refl
marked_at-push (x ∷ layers) one zero none = refl
marked_at-push (x ∷ layers) one (suc i) none = marked_at-push layers one i none

pub marked_at-past : (layers : List Marking) (i : ℕ) → length layers ≤ i → marked_at layers i ≡ []
marked_at-past [] i le = refl
marked_at-past (x ∷ layers) zero le = absurd (omega arith)
marked_at-past (x ∷ layers) (suc i) le = marked_at-past layers i (omega arith)

pub marked_at-get_or : (layers : List Marking) (i : ℕ) (d : Marking) → i < length layers
    → marked_at layers i ≡ (get_or layers i d).marked
marked_at-get_or [] i d lt = absurd (omega arith)
marked_at-get_or (x ∷ layers) zero d lt = refl
marked_at-get_or (x ∷ layers) (suc i) d lt = marked_at-get_or layers i d (omega arith)

pub all_cleared : (layers : List Marking) (n : ℕ) → length layers ≡ n
    → ((i : ℕ) → i < n → marked_at layers i ≡ []) → (i : ℕ) → marked_at layers i ≡ []
all_cleared layers n long cleared i =
    ⊎_elim
    (λ (lt : i < n). cleared i lt)
    (λ (le : n ≤ i). marked_at-past layers i (omega arith))
    (cases_lt i n)
