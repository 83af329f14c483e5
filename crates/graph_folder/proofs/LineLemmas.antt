-- The first line of a text, by where its first newline stands.
use Rattle.std.proofs.Common.{◌≡◌, ◌≢◌, ℕ, ◌+◌, ◌-◌, ◌<◌, ◌≤◌, Bool, true, false, eqb, ltb, List, [], ◌∷◌, ◌++◌, length, take}
use Rattle.std.proofs.Common.{drop, Some, None, refl, ap, ◌∙◌, arith}
use Rattle.std.proofs.lemmas.List.Splits.{slice_split_first, slice_split_at, slice_split_none, length-slice_split}
use Rattle.std.proofs.lemmas.Bool.{ne_eqb}
use Rattle.std.proofs.lemmas.List.{length-append}
use Rattle.std.proofs.Math.Seq.{get_or-append_seam, take-append_seam}
use Rattle.std.proofs.lemmas.Bool.Decides.{nat_tests}
use Rattle.std.specs.List.{All, slice_split, position, position_or_len, onto_first}
use Rattle.std.specs.Str.Lines.{lines, lines_of_parts, strip_carriage_return}

abbrev is_newline : ℕ → Bool
is_newline b = eqb b 10

-- a text with no newline is one part
one_part : (text : List ℕ) → length text ≤ position_or_len is_newline text → slice_split is_newline text ≡ text ∷ []
one_part [] h = refl
one_part (b ∷ bs) h = by (is_newline b) refl (one_part bs)
  where
    by : (v : Bool) → is_newline b ≡ v → (length bs ≤ position_or_len is_newline bs → slice_split is_newline bs ≡ bs ∷ [])
        → slice_split is_newline (b ∷ bs) ≡ (b ∷ bs) ∷ []
    by true e rest = absurd (grind (arith, e, h))
    by false e rest = rw e (ap (onto_first b) (rest (grind (arith, e, h))))

-- a part before others loses its carriage return
lines_of_parts-cons : (part : List ℕ) (parts : List (List ℕ)) → 0 < length parts
    → lines_of_parts (part ∷ parts) ≡ strip_carriage_return part ∷ lines_of_parts parts
lines_of_parts-cons part [] h = absurd (omega arith)
lines_of_parts-cons part (x ∷ xs) h = refl

-- what `position` says of the number of elements before the first newline
before_newline : (text : List ℕ) (end : ℕ) → position is_newline text ≡ Some end → (position_or_len is_newline text ≡ end)
    × (end < length text)
before_newline text end is = by (ltb (position_or_len is_newline text) (length text)) refl
  where
    by : (v : Bool) → ltb (position_or_len is_newline text) (length text) ≡ v → (position_or_len is_newline text ≡ end)
        × (end < length text)
    by true e = let same : position_or_len is_newline text ≡ end = grind (arith, e, is) in
        (same, grind (arith, nat_tests, e, same))
    by false e = absurd (grind (arith, e, is))

no_newline : (text : List ℕ) → position is_newline text ≡ None → length text ≤ position_or_len is_newline text
no_newline text none = by (ltb (position_or_len is_newline text) (length text)) refl
  where
    by : (v : Bool) → ltb (position_or_len is_newline text) (length text) ≡ v → length text ≤ position_or_len is_newline text
    by true e = absurd (grind (arith, e, none))
    by false e = grind (arith, nat_tests, e)

-- a text with no newline is one line
pub lines_last : (text : List ℕ) → 0 < length text → position is_newline text ≡ None → lines text ≡ text ∷ []
lines_last text some none = ap lines_of_parts (one_part text (no_newline text none)) ∙ grind (arith, nat_tests, some)

-- the first line ends at the first newline
pub lines_first : (text : List ℕ) (end : ℕ) → position is_newline text ≡ Some end
    → lines text ≡ strip_carriage_return (take end text) ∷ lines (drop (end + 1) text)
lines_first text end is =
    let before = before_newline text end is in
    let inside : position_or_len is_newline text < length text = omega (arith, before.0, before.1) in
    ap lines_of_parts (slice_split_first is_newline text 0 inside)
    ∙ ap (λ n. lines_of_parts (take n text ∷ slice_split is_newline (drop (n + 1) text))) before.0
    ∙ lines_of_parts-cons (take end text) (slice_split is_newline (drop (end + 1) text))
    (omega (arith, length-slice_split is_newline (drop (end + 1) text)))

-- no byte of the text is a newline
no_newlines : (text : List ℕ) → All (λ byte. byte ≢ 10) text → All (λ byte. is_newline byte ≡ false) text
no_newlines text none k d within = ne_eqb _ 10 (none k d within)

pub lines_none : lines [] ≡ []
lines_none = refl

pub lines_alone : (line : List ℕ) → 0 < length line → All (λ byte. byte ≢ 10) line → lines line ≡ line ∷ []
lines_alone line some none = ap lines_of_parts (slice_split_none is_newline line (no_newlines line none))
    ∙ grind (arith, nat_tests, some)

pub lines_cut : (line rest : List ℕ) → All (λ byte. byte ≢ 10) line
    → lines (line ++ 10 ∷ rest) ≡ strip_carriage_return line ∷ lines rest
lines_cut line rest none =
    ap lines_of_parts (slice_split_at is_newline line 10 rest (no_newlines line none) refl)
    ∙ lines_of_parts-cons line (slice_split is_newline rest) (omega (arith, length-slice_split is_newline rest))

-- where the last byte stands
last_place : (line : List ℕ) (byte : ℕ) → length (line ++ byte ∷ []) - 1 ≡ length line
last_place line byte = omega (arith, length-append line (byte ∷ []))

pub stripped : (line : List ℕ) → strip_carriage_return (line ++ 13 ∷ []) ≡ line
stripped line = rw (last_place line 13, get_or-append_seam line 13 [] 0) (take-append_seam line (13 ∷ []))

pub kept : (line : List ℕ) (byte : ℕ) → byte ≢ 13 → strip_carriage_return (line ++ byte ∷ []) ≡ line ++ byte ∷ []
kept line byte other = rw (last_place line byte, get_or-append_seam line byte [] 0, ne_eqb byte 13 other) refl

pub strip_none : strip_carriage_return [] ≡ []
strip_none = refl

pub ruleset cut_laws = (lines_none, lines_alone, lines_cut, stripped, kept, strip_none)
