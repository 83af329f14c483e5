-- What the line before the contents says.
use Rattle.std.proofs.Common.{◌≡◌, ◌≢◌, ℕ, ◌*◌, ◌^◌, ◌<◌, List, ◌++◌, length, take, decimal, sym, ap, ◌∙◌, arith}
use Rattle.std.proofs.Common.{take-append-drop, min}
use Rattle.std.proofs.lemmas.Bool.{eqb-true, eq-eqb}
use Rattle.std.proofs.lemmas.List.{get_or-take, length-take, take_min}
use Rattle.std.proofs.lemmas.List.Elements.{All-same, All-from_get_or}
use Rattle.memchr.specs.Find.{IsFirstByte, is_byte}
use Rattle.std.specs.Prelude.{Option, Some, None, MatchOption}
use Rattle.std.specs.List.{AllPass, IsSplitAt}
use Rattle.std.proofs.lemmas.List.{append_cancel_left}
use Rattle.object_stream.specs.BatchEntry.{IsObjectLine, IsTail, is_lower_digit, HasNoFeed, IsLineEnd}
use Rattle.object_stream.specs.BatchEntry.{longest_line}
use Rattle.object_stream.specs.declared.heading.Heading.{Heading}

-- a size behind a word
pub size_there : (word tail text : List ℕ) (r : Option ℕ) → tail ≡ word ++ text
    → MatchOption r ((n : ℕ) → n < 2 ^ 64 → text ≢ decimal n) (λ n. text ≡ decimal n)
    → MatchOption r ((n : ℕ) → n < 2 ^ 64 → tail ≢ word ++ decimal n) (λ n. tail ≡ word ++ decimal n)
size_there word tail text (Some n) e h = e ∙ ap (λ l. word ++ l) h
size_there word tail text None e h = λ n small same. h n small (append_cancel_left word text (decimal n) (sym e ∙ same))

-- a list from both of its parts
pub put_together : (n : ℕ) (s front back : List ℕ) → IsSplitAt s n front back → front ++ back ≡ s
put_together n s front back split = ap (λ l. l ++ back) split.1 ∙ ap (λ l. take n s ++ l) split.2 ∙ take-append-drop n s

-- what was found of a line
pub head_is : (size n : ℕ) (line digits tail : List ℕ) (told : Heading) → size ≡ n → IsSplitAt line (2 * size) digits tail
    → AllPass is_lower_digit digits → IsTail tail told → IsObjectLine n line digits told
head_is size n line digits tail told same split lower says = record {
  sized = grind (arith, split, same);
  lower = lower;
  tail = tail;
  whole = sym (put_together _ line digits tail split);
  is_tail = says;
}

-- the first line feed, as `memchr` finds it in the bytes of the longest line
pub feed_in_front : (bytes : List ℕ) (n : ℕ) (r : Option ℕ) → n ≡ min 93 (length bytes)
    → IsFirstByte (is_byte 10) (take n bytes) r → MatchOption r (HasNoFeed (take longest_line bytes)) (IsLineEnd bytes)
feed_in_front bytes n None least nowhere =
    All-same (λ b. b ≢ 10) (take 93 bytes) (take n bytes) (sym (ap (λ n. take n bytes) least ∙ take_min 93 bytes))
    (All-from_get_or (λ b. b ≢ 10) (take n bytes) 0 (λ k within same. nowhere k (omega arith) within (eq-eqb _ _ same)))
feed_in_front bytes n (Some end) least found =
    let within : end < n = omega (arith, found.0.high, length-take n bytes) in
    record {
      within = omega (arith, within, least);
      feed = sym (get_or-take n bytes end 0 within) ∙ eqb-true _ _ found.1;
      one = All-from_get_or (λ b. b ≢ 10) (take end bytes) 0 (λ k there same.
          let before : k < end = omega (arith, there, length-take end bytes) in
          found.0.before k (omega arith) before
          (eq-eqb _ _ (get_or-take n bytes k 0 (omega (arith, before, within)) ∙ sym (get_or-take end bytes k 0 before) ∙ same)));
      short = omega (arith, within, least);
    }
