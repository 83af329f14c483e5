-- Lines with ids: one line begins given bytes at most, and a commit says one thing at most.
use Rattle.std.proofs.Common.{◌≡◌, ◌≢◌, ℕ, ◌*◌, ◌<◌, List, [], ◌∷◌, ◌++◌, length, take, drop, Bor, Bool, true, false}
use Rattle.std.proofs.Common.{refl, sym, ap, ◌∙◌, arith, take-append-drop, append_assoc, inl, inr, ⊎_elim, ◌%◌}
use Rattle.std.proofs.lemmas.List.{append_cancel_left, length-append}
use Rattle.std.proofs.Math.Seq.{take-append_seam}
use Rattle.hex.proofs.HexLemmas.{decode_of-ok, decode_of-same, decode_of-digits}
use Rattle.hex.specs.Hex.{decode_of, is_hex_digit}
use Rattle.hex.specs.declared.error.FromHexError.{FromHexError}
use Rattle.std.specs.Prelude.{Result, Ok, Option, Some, None, MatchOption, codes, nat_eq}
use Rattle.std.specs.List.{AllPass, IsSplitAt, starts_with}
use Rattle.std.specs.Result.{result_unwrap_or}
use Rattle.std.proofs.lemmas.Slice.Eq.{starts_is}
use Rattle.std.proofs.lemmas.Bool.Decides.{Decides-eqb}
use Rattle.gix_hash_core.specs.declared.kind.Kind.{Kind}
use Rattle.gix_hash_core.specs.Kind.{id_len}
use Rattle.gix_hash_core.specs.declared.kind.Kind.TheVariants.{Sha1, Sha256}
use Rattle.gix_hash_core.specs.Hexadecimal.{SpellsId, IsHexLen}
use Rattle.commit_objects.specs.CommitContents.{IsIdLine}
use Rattle.commit_objects.specs.Lines.{BeginsWithWord, BeginsWithLine, id_of_digits}

-- an id has two digits for each byte
pub digits_len : (text id : List ℕ) → SpellsId text id → length text ≡ 2 * length id
digits_len text id spells = (decode_of-ok text id spells.1).2

-- equal lists whose fronts are as long have equal fronts
pub same_front : (a b x y : List ℕ) → length a ≡ length b → a ++ x ≡ b ++ y → (a ≡ b) × (x ≡ y)
same_front a b x y same e =
    let front : a ≡ b =
    sym (take-append_seam a x) ∙ ap (λ l. take (length a) l) e ∙ ap (λ n. take n (b ++ y)) same ∙ take-append_seam b y in
    (front, append_cancel_left b x y (rw front at e))

-- two lines with which the same bytes begin have one id, and end at one place
pub one_line : (kind : Kind) (word bytes id next other end : List ℕ) → BeginsWithLine kind word bytes id next
    → BeginsWithLine kind word bytes other end → (id ≡ other) × (next ≡ end)
one_line kind word bytes id next other end first second =
    let behind : first.digits ++ 10 ∷ next ≡ second.digits ++ 10 ∷ end =
    append_cancel_left word (first.digits ++ 10 ∷ next) (second.digits ++ 10 ∷ end) (sym first.whole ∙ second.whole) in
    let as_long : length first.digits ≡ length second.digits =
    omega (arith, digits_len _ _ first.spells, digits_len _ _ second.spells, first.sized, second.sized) in
    let cut = same_front _ _ _ _ as_long behind in
    let same : decode_of first.digits ≡ Ok other = ap decode_of cut.0 ∙ second.spells.1 in
    (decode_of-same first.digits id other first.spells.1 same, ap (drop 1) cut.1)

-- what a line has behind its word
pub behind_the_word : (kind : Kind) (word bytes rest id next : List ℕ) (line : BeginsWithLine kind word bytes id next)
    → bytes ≡ word ++ rest → rest ≡ line.digits ++ 10 ∷ next
behind_the_word kind word bytes rest id next line e =
    append_cancel_left word rest (line.digits ++ 10 ∷ next) (sym e ∙ line.whole)

pub digits_of_kind : (kind : Kind) (word bytes id next : List ℕ) (line : BeginsWithLine kind word bytes id next)
    → length line.digits ≡ 2 * id_len kind
digits_of_kind kind word bytes id next line = omega (arith, digits_len _ _ line.spells, line.sized)

-- the digits are as many bytes as stand in front
pub line_digits : (kind : Kind) (word bytes front end id next : List ℕ) (line : BeginsWithLine kind word bytes id next)
    → bytes ≡ word ++ (front ++ end) → length front ≡ 2 * id_len kind → (front ≡ line.digits) × (end ≡ 10 ∷ next)
line_digits kind word bytes front end id next line e n =
    same_front _ _ _ _ (n ∙ sym (digits_of_kind kind word bytes id next line))
    (behind_the_word kind word bytes (front ++ end) id next line e)

-- bytes that are too few behind the word are no line
pub too_few : (kind : Kind) (word bytes rest : List ℕ) → bytes ≡ word ++ rest → length rest < 2 * id_len kind
    → (id next : List ℕ) → ¬ (BeginsWithLine kind word bytes id next)
too_few kind word bytes rest e few id next line =
    omega (
      arith,
      digits_of_kind kind word bytes id next line,
      ap length (behind_the_word kind word bytes rest id next line e),
      length-append line.digits (10 ∷ next),
    )

-- nor are those without a line feed behind the digits
pub no_feed : (kind : Kind) (word bytes front end : List ℕ) → bytes ≡ word ++ (front ++ end)
    → length front ≡ 2 * id_len kind → ¬ BeginsWithWord end (10 ∷ []) → (id next : List ℕ)
    → ¬ (BeginsWithLine kind word bytes id next)
no_feed kind word bytes front end e n none id next line =
    none (next, (line_digits kind word bytes front end id next line e n).1)

-- nor those with no digits there
pub no_digits : (kind : Kind) (word bytes front end : List ℕ) → bytes ≡ word ++ (front ++ end)
    → length front ≡ 2 * id_len kind → ((id : List ℕ) → ¬ (SpellsId front id)) → (id next : List ℕ)
    → ¬ (BeginsWithLine kind word bytes id next)
no_digits kind word bytes front end e n none id next line =
    let same = line_digits kind word bytes front end id next line e n in none id (rw same.0 line.spells)

-- digits as long as an id's spell one, and the one that is read of them
pub spelled : (text : List ℕ) → IsHexLen (length text) → AllPass is_hex_digit text → (id : List ℕ) × SpellsId text id
spelled text sized digits =
    let even : length text % 2 ≡ 0 = ⊎_elim (λ e. omega (arith, e)) (λ e. omega (arith, e)) sized in
    let read = decode_of-digits text even digits in (read.0, (sized, read.1))

pub spells_own : (text id : List ℕ) → SpellsId text id → SpellsId text (id_of_digits text)
spells_own text id spells =
    (spells.0, spells.1 ∙ ap (λ l. Ok l) (sym (ap (λ (r : Result (List ℕ) FromHexError). result_unwrap_or r []) spells.1)))

-- ids have as many digits as texts that may spell one
pub as_many_digits : (kind : Kind) (n : ℕ) → n ≡ 2 * id_len kind → IsHexLen n
as_many_digits Sha1 n e = inl e
as_many_digits Sha256 n e = inr e

-- what was read is a line
pub is_line : (kind : Kind) (word bytes front end id next : List ℕ) → bytes ≡ word ++ (front ++ end)
    → length front ≡ 2 * id_len kind → end ≡ 10 ∷ next → SpellsId front id → BeginsWithLine kind word bytes id next
is_line kind word bytes front end id next e n feed spells = record {
  digits = front;
  spells = spells;
  sized = omega (arith, digits_len front id spells);
  whole = e ∙ ap (λ l. word ++ (front ++ l)) feed;
}

pub no_word : (kind : Kind) (word bytes : List ℕ) → ¬ BeginsWithWord bytes word → (id next : List ℕ)
    → ¬ (BeginsWithLine kind word bytes id next)
no_word kind word bytes none id next line = none (line.digits ++ 10 ∷ next, line.whole)

-- what stands behind a word, cut in two
pub cut_behind : (word bytes rest front back : List ℕ) (n : ℕ) → bytes ≡ word ++ rest → IsSplitAt rest n front back
    → bytes ≡ word ++ (front ++ back)
cut_behind word bytes rest front back n e split =
    let whole : front ++ back ≡ rest =
    ap (λ l. l ++ back) split.1 ∙ ap (λ l. take n rest ++ l) split.2 ∙ take-append-drop n rest in
    e ∙ ap (λ l. word ++ l) (sym whole)

-- what `strip_prefix` tells
pub begins_where_some : (bytes word : List ℕ) (r : Option (Bor (List ℕ)))
    → MatchOption r ((rest : List ℕ) → bytes ≢ word ++ rest) (λ x. bytes ≡ word ++ x.now)
    → MatchOption r (¬ BeginsWithWord bytes word) (λ x. bytes ≡ word ++ x.now)
begins_where_some bytes word (Some x) h = h
begins_where_some bytes word None h = λ begins. h begins.0 begins.1

-- what `starts_with` tells
pub begins_where : (bytes word : List ℕ) (r : Bool) → r ≡ starts_with nat_eq bytes word → r ≡ true
    → BeginsWithWord bytes word
begins_where bytes word r e is_true = (drop (length word) bytes, (starts_is Decides-eqb bytes word r e).0 is_true)

pub begins_nowhere : (bytes word : List ℕ) (r : Bool) → r ≡ starts_with nat_eq bytes word → r ≡ false
    → ¬ BeginsWithWord bytes word
begins_nowhere bytes word r e is_false begins =
    let is_true = (starts_is Decides-eqb bytes word r e).1 begins.0 begins.1 in
    cc (is_true, is_false)

-- a line is longer than what is next
pub line_shorter : (kind : Kind) (word bytes id next : List ℕ) → BeginsWithLine kind word bytes id next
    → length next < length bytes
line_shorter kind word bytes id next line =
    omega (arith, ap length line.whole, length-append word (line.digits ++ 10 ∷ next), length-append line.digits (10 ∷ next))

-- the bytes of a line, and what is next
pub line_begins : (kind : Kind) (word id line next : List ℕ) → IsIdLine kind word id line
    → BeginsWithLine kind word (line ++ next) id next
line_begins kind word id line next is = record {
  digits = is.0;
  spells = is.1;
  sized = is.2;
  whole =
      ap (λ l. l ++ next) is.3 ∙ append_assoc (word ++ is.0) (10 ∷ []) next ∙ append_assoc word is.0 (10 ∷ next);
}

pub line_of : (kind : Kind) (word bytes id next : List ℕ) → BeginsWithLine kind word bytes id next
    → (line : List ℕ) × IsIdLine kind word id line × (bytes ≡ line ++ next)
line_of kind word bytes id next begins = (
  word ++ begins.digits ++ codes "\n",
  (begins.digits, begins.spells, begins.sized, refl),
  begins.whole ∙ sym (append_assoc word begins.digits (10 ∷ next))
      ∙ sym (append_assoc (word ++ begins.digits) (10 ∷ []) next),
)
