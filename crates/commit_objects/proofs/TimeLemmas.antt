-- What the words of times come to.
use Rattle.std.proofs.Common.{◌≡◌, ◌≢◌, ◌≤◌, ◌<◌, ℕ, ◌+◌, ◌-◌, ◌*◌, Bool, true, false, not, List, [], ◌∷◌, ◌++◌}
use Rattle.std.proofs.Common.{length, take, drop, get_or, Bor, cond, refl, sym, ap, ◌∙◌, arith, length-append, ⊎_elim}
use Rattle.std.proofs.lemmas.Bool.Decides.{nat_tests, Decides-eqb}
use Rattle.std.proofs.lemmas.Bool.{eqb-true, eq-eqb, cases_lt}
use Rattle.std.proofs.lemmas.Grind.{common_steps}
use Rattle.std.proofs.lemmas.Slice.Eq.{starts_is}
use Rattle.std.proofs.lemmas.List.{take-take}
use Rattle.std.proofs.lemmas.List.Sums.{split_at_first, passes_at_first, fails_before_first, suffix_len_is, prefix_len_is}
use Rattle.std.proofs.lemmas.List.Sums.{position_or_len_is, prefix_len_stops}
use Rattle.std.proofs.Math.Seq.{drop-append_seam}
use Rattle.std.specs.Prelude.{MatchOption, IfSome, Option, Some, None, option_map, position, nat_eq, nat_lt, ◌==◌}
use Rattle.std.specs.List.{starts_with, prefix_len, after_last, before_first, after_first, position_or_len, suffix_len}
use Rattle.std.specs.Str.Parse.{digits_value}
use Rattle.std.specs.Char.{digit_value, is_ascii_digit}
use Rattle.std.proofs.lemmas.Int.Digits.{digits_value_push}
use Rattle.std.proofs.lemmas.Str.Parse.{digits_value-take-le}
use Rattle.memchr.specs.Find.{IsFirstByte, is_byte}
use Rattle.commit_objects.specs.Time.{behind_word, behind_byte, behind_last_byte, spelled_number}

-- what a word is followed by, as `strip_prefix` tells it
pub behind_word_is : (word bytes : List ℕ) (r : Option (Bor (List ℕ)))
    → MatchOption r ((rest : List ℕ) → bytes ≢ word ++ rest) (λ x. bytes ≡ word ++ x.now)
    → option_map (λ (x : Bor (List ℕ)). x.now) r ≡ behind_word word bytes
behind_word_is word bytes r h = by (starts_with nat_eq bytes word) refl r h
  where
    by : (v : Bool) → starts_with nat_eq bytes word ≡ v → (r : Option (Bor (List ℕ)))
        → MatchOption r ((rest : List ℕ) → bytes ≢ word ++ rest) (λ x. bytes ≡ word ++ x.now)
        → option_map (λ (x : Bor (List ℕ)). x.now) r ≡ cond v (Some (drop (length word) bytes)) None
    by true e (Some x) h =
        let same : drop (length word) bytes ≡ x.now = ap (drop (length word)) h ∙ drop-append_seam word x.now in
        ap (λ l. Some l) (sym same)
    by true e None h = absurd (h (drop (length word) bytes) ((starts_is Decides-eqb bytes word _ refl).0 e))
    by false e (Some x) h = let yes = (starts_is Decides-eqb bytes word _ refl).1 x.now h in cc (yes, e)
    by false e None h = refl

-- what stands behind the first byte with a value stands behind that byte
pub behind_byte-some : (value : ℕ) (bytes rest : List ℕ) → Some rest ≡ behind_byte value bytes
    → (front : List ℕ) × (bytes ≡ front ++ value ∷ rest)
behind_byte-some value bytes rest e = by (nat_lt (position_or_len (λ b. b == value) bytes) (length bytes)) refl e
  where
    by : (v : Bool) → nat_lt (position_or_len (λ b. b == value) bytes) (length bytes) ≡ v
        → Some rest ≡ option_map (λ place. drop (place + 1) bytes) (cond v (Some (position_or_len (λ b. b == value) bytes)) None)
        → (front : List ℕ) × (bytes ≡ front ++ value ∷ rest)
    by true lt e =
        let within : position_or_len (λ b. b == value) bytes < length bytes = grind (arith, nat_tests, lt) in
        let here : get_or bytes (position_or_len (λ b. b == value) bytes) 0 ≡ value =
        eqb-true _ _ (passes_at_first (λ b. b == value) bytes 0 within) in
        let behind : after_first (λ b. b == value) bytes ≡ rest = cc e in (
          before_first (λ b. b == value) bytes,
          split_at_first (λ b. b == value) bytes 0 within
              ∙ ap (λ x. before_first (λ b. b == value) bytes ++ x ∷ after_first (λ b. b == value) bytes) here
              ∙ ap (λ l. before_first (λ b. b == value) bytes ++ value ∷ l) behind,
        )
    by false lt e = cc e

-- where nothing stands behind, no byte has the value
pub behind_byte-none : (value : ℕ) (bytes : List ℕ) → None ≡ behind_byte value bytes → (k : ℕ) → k < length bytes
    → (get_or bytes k 0 == value) ≡ false
behind_byte-none value bytes e k within = by (nat_lt (position_or_len (λ b. b == value) bytes) (length bytes)) refl e
  where
    by : (v : Bool) → nat_lt (position_or_len (λ b. b == value) bytes) (length bytes) ≡ v
        → None ≡ option_map (λ place. drop (place + 1) bytes) (cond v (Some (position_or_len (λ b. b == value) bytes)) None)
        → (get_or bytes k 0 == value) ≡ false
    by true lt e = cc e
    by false lt e =
        let all : length bytes ≤ position_or_len (λ b. b == value) bytes = grind (arith, nat_tests, lt) in
        fails_before_first (λ b. b == value) bytes k 0 (omega arith)

pub behind_last_byte-none : (value : ℕ) (bytes : List ℕ) → None ≡ behind_byte value bytes
    → None ≡ behind_last_byte value bytes
behind_last_byte-none value bytes e = by (position (λ b. b == value) bytes) e
  where
    by : (o : Option ℕ) → None ≡ option_map (λ place. drop (place + 1) bytes) o
        → None ≡ option_map (λ place. after_last (λ b. b == value) bytes) o
    by (Some place) e = cc e
    by None e = refl

-- the last byte with a value is the one behind which there is none
pub behind_last_byte-some : (value : ℕ) (bytes front rest : List ℕ) → bytes ≡ front ++ value ∷ rest
    → None ≡ behind_byte value rest → Some rest ≡ behind_last_byte value bytes
behind_last_byte-some value bytes front rest e none =
    let len : length bytes ≡ length front + 1 + length rest =
    omega (arith, ap length e, length-append front (value ∷ rest)) in
    let later : (k : ℕ) → length front + 1 ≤ k → k < length bytes → not (get_or bytes k 0 == value) ≡ true =
    λ k from to.
    let at : get_or bytes k 0 ≡ get_or rest (k - (length front + 1)) 0 = rw e (grind (arith, common_steps)) in
    let other = behind_byte-none value rest none (k - (length front + 1)) (omega arith) in
    ap not (ap (λ x. x == value) at ∙ other) in
    let here : get_or bytes (length front) 0 ≡ value = rw e (grind (arith, common_steps)) in
    let there : not (get_or bytes (length front + 1 - 1) 0 == value) ≡ false =
    let n : length front + 1 - 1 ≡ length front = omega arith in
    ap (λ k. not (get_or bytes k 0 == value)) n ∙ ap (λ x. not (x == value)) here ∙ ap not (eq-eqb value value refl) in
    let suffix = suffix_len_is (λ b. not (b == value)) bytes (length front + 1) 0 (omega arith) later (λ some. there) in
    let place : length bytes - suffix_len (λ b. not (b == value)) bytes ≡ length front + 1 = omega (arith, suffix, len) in
    let last : after_last (λ b. b == value) bytes ≡ rest =
    ap (λ n. drop n bytes) place ∙ rw e (grind (arith, common_steps)) in
    by last (nat_lt (position_or_len (λ b. b == value) bytes) (length bytes)) refl
  where
    by : after_last (λ b. b == value) bytes ≡ rest → (v : Bool)
        → nat_lt (position_or_len (λ b. b == value) bytes) (length bytes) ≡ v
        → Some rest
        ≡ option_map (λ place. after_last (λ b. b == value) bytes) (cond v (Some (position_or_len (λ b. b == value) bytes)) None)
    by last true lt = ap (λ l. Some l) (sym last)
    by last false lt =
        let all : length bytes ≤ position_or_len (λ b. b == value) bytes = grind (arith, nat_tests, lt) in
        let within : length front < position_or_len (λ b. b == value) bytes =
        omega (arith, all, ap length e, length-append front (value ∷ rest)) in
        let other = fails_before_first (λ b. b == value) bytes (length front) 0 within in
        let here : get_or bytes (length front) 0 ≡ value = rw e (grind (arith, common_steps)) in
        let same : (get_or bytes (length front) 0 == value) ≡ true = eq-eqb _ _ here in
        cc (same, other)

-- one more digit
pub one_more_digit : (bytes : List ℕ) (i : ℕ) → i < length bytes → is_ascii_digit (get_or bytes i 0) ≡ true
    → digits_value 10 (take (i + 1) bytes) ≡ digits_value 10 (take i bytes) * 10 + (get_or bytes i 0 - 48)
one_more_digit bytes i within is =
    let digit : digit_value (get_or bytes i 0) ≡ get_or bytes i 0 - 48 = grind (arith, nat_tests, is) in
    let last : take (i + 1) bytes ≡ take i bytes ++ (get_or bytes i 0 ∷ []) = grind (arith, common_steps) in
    ap (digits_value 10) last ∙ digits_value_push 10 (take i bytes) (get_or bytes i 0)
    ∙ ap (λ n. digits_value 10 (take i bytes) * 10 + n) digit

-- where the digits end, the number is theirs
pub number_ends : (bytes : List ℕ) (i : ℕ) → i ≤ length bytes
    → ((k : ℕ) → k < i → is_ascii_digit (get_or bytes k 0) ≡ true)
    → (i < length bytes → is_ascii_digit (get_or bytes i 0) ≡ false) → digits_value 10 (take i bytes) ≡ spelled_number bytes
number_ends bytes i within digits other =
    ap (λ n. digits_value 10 (take n bytes)) (sym (prefix_len_is is_ascii_digit bytes i 0 within digits other))

-- the digits so far spell no more than all
pub number_grows : (bytes : List ℕ) (i : ℕ) → i ≤ length bytes
    → ((k : ℕ) → k < i → is_ascii_digit (get_or bytes k 0) ≡ true) → digits_value 10 (take i bytes) ≤ spelled_number bytes
number_grows bytes i within digits = rw (sym (take-take i (prefix_len is_ascii_digit bytes) bytes reached))
    (digits_value-take-le 10 (take (prefix_len is_ascii_digit bytes) bytes) i (omega arith))
  where
    reached : i ≤ prefix_len is_ascii_digit bytes
    reached = ⊎_elim
        (λ less. let stops = prefix_len_stops is_ascii_digit bytes 0 (omega (arith, less, within)) in
        cc (stops, digits (prefix_len is_ascii_digit bytes) less))
        (λ e. e) (cases_lt (prefix_len is_ascii_digit bytes) i)

not_passed : (b : Bool) → ¬ (b ≡ true) → b ≡ false
not_passed true never = absurd (never refl)
not_passed false never = refl

-- the first place of a byte, as `memchr` tells it
pub first_is : (value : ℕ) (bytes : List ℕ) (r : Option ℕ) → IsFirstByte (is_byte value) bytes r
    → r ≡ position (λ byte. byte == value) bytes
first_is value bytes None nowhere =
    let at_end : position_or_len (λ b. b == value) bytes ≡ length bytes =
    position_or_len_is (λ b. b == value) bytes (length bytes) 0 (omega arith)
    (λ k within. not_passed _ (nowhere k (omega arith) within)) (λ within. absurd (omega (arith, within))) in
    let no : nat_lt (length bytes) (length bytes) ≡ false = grind (arith, nat_tests) in
    rw (at_end, no) refl
first_is value bytes (Some place) found =
    let here : position_or_len (λ b. b == value) bytes ≡ place =
    position_or_len_is (λ b. b == value) bytes place 0 (omega (arith, found.0.high))
    (λ k before. not_passed _ (found.0.before k (omega arith) before)) (λ _. found.1) in
    let yes : nat_lt place (length bytes) ≡ true = grind (arith, nat_tests, found.0.high) in
    rw (here, yes) refl

pub first_within : (value : ℕ) (bytes : List ℕ) (r : Option ℕ) → IsFirstByte (is_byte value) bytes r
    → IfSome r (λ place. place < length bytes)
first_within value bytes None nowhere = tt
first_within value bytes (Some place) found = found.0.high
