-- Ids and their lines as Git writes them.
use Rattle.std.proofs.Common.{◌≡◌, ◌↔◌, ℕ, zero, suc, ◌+◌, ◌*◌, ◌/◌, ◌%◌, ◌<◌, ◌≤◌, ◌-◌, List, ◌∷◌, ◌++◌, length, drop}
use Rattle.std.proofs.Common.{Bool, true, ◌&&◌, T, eqb, get_or, refl, sym, ap, ◌∙◌, arith, inl, inr, eq-zero-or-pos}
use Rattle.std.proofs.Common.{eqb→eq}
use Rattle.std.specs.Prelude.{IsTrue, Ok, slice_index}
use Rattle.std.proofs.lemmas.Bool.{and_parts, eqb-true, eq-eqb}
use Rattle.std.proofs.lemmas.List.{append_cancel_left, drop_all, length-append}
use Rattle.std.proofs.Math.Seq.{drop-cons}
use Rattle.hex.specs.Hex.{IsBytes, decode_of, encode_lower, encode_with, lower_digits}
use Rattle.hex.proofs.HexLemmas.{decode_of-encode_lower, length-encode_with}
use Rattle.hex.proofs.Pairs.{encode_with-drop}
use lib.Ieee.Fits.{and_l, and_r}
use Rattle.gix_hash_core.specs.declared.kind.Kind.{Kind}
use Rattle.gix_hash_core.specs.Hexadecimal.{IsHexLen, SpellsId}
use Rattle.gix_hash_core.specs.Kind.{id_len, is_id_len}
use Rattle.commit_objects.specs.Lines.{BeginsAsWritten}
use Rattle.commit_objects.proofs.LineLemmas.{same_front}
use Rattle.commit_objects.specs.declared.written.TheConstants.{DIGITS}

-- the table has both digits of each byte below this one
abbrev has_digits : ℕ → Bool
has_digits zero = true
has_digits (suc b) =
    (eqb (get_or DIGITS (2 * b) 0) (slice_index lower_digits (b / 16))
    && eqb (get_or DIGITS (2 * b + 1) 0) (slice_index lower_digits (b % 16)))
    && has_digits b

below : (n b : ℕ) → T (has_digits n) → b < n → (get_or DIGITS (2 * b) 0 ≡ slice_index lower_digits (b / 16))
    × (get_or DIGITS (2 * b + 1) 0 ≡ slice_index lower_digits (b % 16))
below zero b t h = absurd (omega arith)
below (suc n) b t h =
    elim (eq-zero-or-pos (n - b)) [
      | inl z ↦
          let e : b ≡ n = omega arith in
          let both = and_l _ (has_digits n) t in
          rw e (eqb→eq _ _ (and_l _ _ both), eqb→eq _ _ (and_r _ _ both))
      | inr g ↦ below n b (and_r _ (has_digits n) t) (omega arith)
    ]

-- the digits of a byte
pub DIGITS_at : (b : ℕ) → b < 256 → (get_or DIGITS (2 * b) 0 ≡ slice_index lower_digits (b / 16))
    × (get_or DIGITS (2 * b + 1) 0 ≡ slice_index lower_digits (b % 16))
DIGITS_at b h = below 256 b tt h

-- The text and the digits of the bytes are the same exactly where both have been so before this byte, and are so from it on.
abbrev pub AgreesBelow : List ℕ → List ℕ → ℕ → Bool → Type 0
AgreesBelow text bytes i same =
    (text ≡ encode_lower bytes) ↔ (IsTrue same × (drop (2 * i) text ≡ encode_lower (drop i bytes)))

pub none_compared : (text bytes : List ℕ) → AgreesBelow text bytes 0 true
none_compared text bytes = (λ e. (refl, e), λ both. both.1)

two_more : (xs : List ℕ) (i : ℕ) → 2 * i + 1 < length xs
    → drop (2 * i) xs ≡ get_or xs (2 * i) 0 ∷ get_or xs (2 * i + 1) 0 ∷ drop (2 * (i + 1)) xs
two_more xs i within =
    let first : 2 * i < length xs = omega arith in
    let next : suc (2 * i) < length xs = omega arith in
    let place : suc (2 * i) ≡ 2 * i + 1 = omega arith in
    let end : suc (suc (2 * i)) ≡ 2 * (i + 1) = omega arith in
    drop-cons xs (2 * i) 0 first
    ∙ ap (λ l. get_or xs (2 * i) 0 ∷ l) (drop-cons xs (suc (2 * i)) 0 next)
    ∙ ap (λ n. get_or xs (2 * i) 0 ∷ get_or xs n 0 ∷ drop (suc (suc (2 * i))) xs) place
    ∙ ap (λ n. get_or xs (2 * i) 0 ∷ get_or xs (2 * i + 1) 0 ∷ drop n xs) end

both_true : (x y : Bool) → x ≡ true → y ≡ true → (x && y) ≡ true
both_true x y is_x is_y = rw (is_x, is_y) refl

pub one_more : (text bytes : List ℕ) (i : ℕ) (same : Bool) → i < length bytes → 2 * i + 1 < length text
    → get_or bytes i 0 < 256 → AgreesBelow text bytes i same
    → AgreesBelow text bytes (i + 1)
    ((same && eqb (get_or text (2 * i) 0) (get_or DIGITS (2 * get_or bytes i 0) 0))
    && eqb (get_or text (2 * i + 1) 0) (get_or DIGITS (2 * get_or bytes i 0 + 1) 0))
one_more text bytes i same within there small so_far =
    let byte = get_or bytes i 0 in
    let first = get_or text (2 * i) 0 in
    let next = get_or text (2 * i + 1) 0 in
    let rest = drop (2 * (i + 1)) text in
    let high = slice_index lower_digits (byte / 16) in
    let low = slice_index lower_digits (byte % 16) in
    let code = encode_lower (drop (i + 1) bytes) in
    let digits = DIGITS_at byte small in
    let cut : drop (2 * i) text ≡ first ∷ next ∷ rest = two_more text i there in
    let coded : encode_lower (drop i bytes) ≡ high ∷ low ∷ code = encode_with-drop lower_digits bytes i within in (
      λ e.
          let both = so_far.0 e in
          let here : first ∷ next ∷ rest ≡ high ∷ low ∷ code = sym cut ∙ both.1 ∙ coded in
          let is_first = eq-eqb first _ (ap (λ l. get_or l 0 0) here ∙ sym digits.0) in
          let is_next = eq-eqb next _ (ap (λ l. get_or l 1 0) here ∙ sym digits.1) in
          (both_true _ _ (both_true _ _ both.0 is_first) is_next, ap (λ l. drop 2 l) here),
      λ both.
          let outer = and_parts _ _ both.0 in
          let inner = and_parts _ _ outer.0 in
          let is_first : first ≡ high = eqb-true _ _ inner.1 ∙ digits.0 in
          let is_next : next ≡ low = eqb-true _ _ outer.1 ∙ digits.1 in
          let here : first ∷ next ∷ rest ≡ high ∷ low ∷ code =
          ap (λ x. x ∷ next ∷ rest) is_first ∙ ap (λ x. high ∷ x ∷ rest) is_next ∙ ap (λ l. high ∷ low ∷ l) both.1 in
          so_far.1 (inner.0, cut ∙ here ∙ sym coded),
    )

pub all_compared : (text bytes : List ℕ) (i : ℕ) (same : Bool) → length bytes ≤ i → length text ≤ 2 * i
    → AgreesBelow text bytes i same → IsTrue same ↔ (text ≡ encode_lower bytes)
unfolding encode_with
all_compared text bytes i same none end so_far =
    let left : drop (2 * i) text ≡ encode_lower (drop i bytes) =
    drop_all (2 * i) text end ∙ ap encode_lower (sym (drop_all i bytes none)) in
    (λ yes. so_far.1 (yes, left), λ e. (so_far.0 e).0)

-- what stands behind the word in the line of an id as Git writes it
pub cut_as_written : (kind : Kind) (word bytes front end id next : List ℕ) → bytes ≡ word ++ (front ++ end)
    → length front ≡ 2 * id_len kind → BeginsAsWritten kind word bytes id next
    → (front ≡ encode_lower id) × (end ≡ 10 ∷ next)
cut_as_written kind word bytes front end id next whole n written =
    same_front front (encode_lower id) end (10 ∷ next)
    (omega (arith, n, written.sized, length-encode_with lower_digits id))
    (append_cancel_left word (front ++ end) (encode_lower id ++ 10 ∷ next) (sym whole ∙ written.whole))

pub too_few_written : (kind : Kind) (word bytes rest id next : List ℕ) → bytes ≡ word ++ rest → length rest < 2 * id_len kind
    → ¬ (BeginsAsWritten kind word bytes id next)
too_few_written kind word bytes rest id next whole few written =
    let behind : rest ≡ encode_lower id ++ 10 ∷ next =
    append_cancel_left word rest (encode_lower id ++ 10 ∷ next) (sym whole ∙ written.whole) in
    omega (
      arith,
      few,
      written.sized,
      ap length behind,
      length-append (encode_lower id) (10 ∷ next),
      length-encode_with lower_digits id,
    )

-- the digits of bytes are decoded to them
pub decoded : (text bytes : List ℕ) → text ≡ encode_lower bytes → IsBytes bytes → decode_of text ≡ Ok bytes
decoded text bytes same small = ap decode_of same ∙ decode_of-encode_lower bytes small

-- what digits spell
pub spelled_by : (text bytes id : List ℕ) → decode_of text ≡ Ok bytes → bytes ≡ id → IsTrue (is_id_len (length bytes))
    → length text ≡ 2 * length bytes → SpellsId text id
spelled_by text bytes id read same sized twice = (
  twice_sized (length bytes) (length text) sized twice,
  read ∙ ap (λ l. Ok l) same,
)
  where
    twice_sized : (n digits : ℕ) → IsTrue (is_id_len n) → digits ≡ 2 * n → IsHexLen digits
    twice_sized n digits sized twice = grind (arith)
