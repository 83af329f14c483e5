-- Lines and entries at the front of bytes.
use Rattle.std.proofs.Common.{◌≡◌, ℕ, ◌+◌, ◌*◌, ◌^◌, ◌<◌, ◌≤◌, List, [], ◌∷◌, ◌++◌, length, take, drop, get_or, sym, ap, ◌∙◌}
use Rattle.std.proofs.Common.{append_assoc, take-append-drop, add-one, arith, subst, Option, Some, None}
use Rattle.std.specs.Prelude.{IfSome}
use Rattle.std.specs.Io.{StartsWith}
use Rattle.std.specs.Io.KnownBytes.{Consumes, Keeps, prepend_known}
use Rattle.std.proofs.KnownBytes.{starts_with_rest}
use Rattle.std.proofs.Math.Seq.{drop-append-add, drop-cons}
use Rattle.std.proofs.lemmas.List.{length-append, length-drop, length-take-le, take_all, take-append-le}
use Rattle.hex.specs.Hex.{encode_lower}
use Rattle.gix_hash_core.specs.Kind.{id_len}
use Rattle.gix_hash_core.specs.declared.kind.Kind.{Kind}
use Rattle.object_stream.specs.BatchEntry.{object_line, IsLine, IsLineEnd, IsObjectLine, BeginsWithEntry}
use Rattle.object_stream.specs.NextEntry.{BeginsWithObject}
use Rattle.object_stream.specs.FoundEntry.{BothKnown, FindsObject}
use Rattle.object_stream.specs.declared.heading.Heading.{Heading}
use Rattle.object_stream.specs.declared.heading.Heading.TheVariants as heading
use Rattle.object_stream.specs.declared.object_type.ObjectType.{ObjectType}

-- a list around one of its places
around : (xs : List ℕ) (i : ℕ) → i < length xs → xs ≡ take i xs ++ (get_or xs i 0 ∷ drop (i + 1) xs)
around xs i within =
    sym (take-append-drop i xs) ∙ ap (λ l. take i xs ++ l) (drop-cons xs i 0 within
    ∙ ap (λ n. get_or xs i 0 ∷ drop n xs) (sym (add-one i)))

-- a list around one of its places, at which a line feed stands
pub around_feed : (xs : List ℕ) (i : ℕ) → i < length xs → get_or xs i 0 ≡ 10 → xs ≡ take i xs ++ 10 ∷ drop (i + 1) xs
around_feed xs i within feed = around xs i within ∙ ap (λ b. take i xs ++ (b ∷ drop (i + 1) xs)) feed

-- the line that ends at the first line feed
line_is : (view : List ℕ) (end : ℕ) → IsLineEnd view end → IsLine view (take end view) (drop (end + 1) view)
line_is view end h =
    let size : length (take end view) ≡ end = length-take-le end view (omega (arith, h.within)) in
    record {
      whole = around_feed view end h.within h.feed;
      one = h.one;
      short = omega (arith, size, h.short);
    }

-- more bytes behind
pub line_more : (bytes line next more : List ℕ) → IsLine bytes line next → IsLine (bytes ++ more) line (next ++ more)
line_more bytes line next more h = record {
  whole = ap (λ l. l ++ more) h.whole ∙ append_assoc line (10 ∷ next) more;
  one = h.one;
  short = h.short;
}

-- a line that ends in some of the bytes
pub line_there : (view more : List ℕ) (end : ℕ) → IsLineEnd view end
    → IsLine (view ++ more) (take end view) (drop (end + 1) view ++ more)
line_there view more end h = line_more view (take end view) (drop (end + 1) view) more (line_is view end h)

module _ (kind : Kind) (type : ObjectType) where
  pub object_more : (bytes digits : List ℕ) (told : Heading) (next more : List ℕ) → BeginsWithObject kind bytes digits told next
      → BeginsWithObject kind (bytes ++ more) digits told (next ++ more)
  object_more bytes digits told next more h = (h.0, line_more bytes h.0 next more h.1, h.2)

  -- the digits stand at the front
  digits_in_front : (bytes digits : List ℕ) (told : Heading) (next : List ℕ) → BeginsWithObject kind bytes digits told next
      → take (2 * id_len kind) bytes ≡ digits
  digits_in_front bytes digits told next h =
      let n = 2 * id_len kind in
      let rest = h.2.tail ++ 10 ∷ next in
      let long : n ≤ length digits = omega (arith, h.2.sized) in
      let all : length digits ≤ n = omega (arith, h.2.sized) in
      ap (take n) (h.1.whole ∙ ap (λ l. l ++ 10 ∷ next) h.2.whole ∙ append_assoc digits h.2.tail (10 ∷ next))
      ∙ take-append-le n digits rest long ∙ take_all n digits all

  -- the digits of a line stand in front of all
  pub same_front : (view : List ℕ) (line : ℕ) (told : Heading) → IsLineEnd view line
      → IsObjectLine (id_len kind) (take line view) (take (2 * id_len kind) (take line view)) told
      → take (2 * id_len kind) view ≡ take (2 * id_len kind) (take line view)
  same_front view line told end head =
      digits_in_front view (take (2 * id_len kind) (take line view)) told (drop (line + 1) view)
      (take line view, line_is view line end, head)

  -- a line that was found and read
  pub found_object : (view : List ℕ) (line size : ℕ) → IsLineEnd view line
      → IsObjectLine (id_len kind) (take line view) (take (2 * id_len kind) (take line view)) (heading.Object type size)
      → FindsObject kind type view line size
  found_object view line size end head =
      let next = drop (line + 1) view in
      let found : BeginsWithObject kind view (take (2 * id_len kind) (take line view)) (heading.Object type size) next =
      (take line view, line_is view line end, head) in
      let front = same_front view line (heading.Object type size) end head in
      (next, rw front found, omega (arith, length-drop (line + 1) view, end.within))

  -- once more bytes are there
  pub object_grown : (old new : List ℕ) (line size : ℕ) → StartsWith new old → FindsObject kind type old line size
      → FindsObject kind type new line size
  object_grown old new line size starts found =
      let more = drop (length old) new in
      let next = found.0 ++ more in
      let digits = take (2 * id_len kind) old in
      let whole : new ≡ old ++ more = starts_with_rest new old starts in
      let grown : BeginsWithObject kind (old ++ more) digits (heading.Object type size) next =
      object_more old digits (heading.Object type size) found.0 more found.1 in
      let there : BeginsWithObject kind new digits (heading.Object type size) next =
      subst (λ (l : List ℕ). BeginsWithObject kind l digits (heading.Object type size) next) (sym whole) grown in
      let front = digits_in_front new digits (heading.Object type size) next there in (
        next,
        rw front there,
        omega (arith, ap length whole, length-append old more, length-append found.0 more, found.2),
      )

  -- and its digits are the same
  pub digits_grown : (old new : List ℕ) (line size : ℕ) → StartsWith new old → FindsObject kind type old line size
      → take (2 * id_len kind) new ≡ take (2 * id_len kind) old
  digits_grown old new line size starts found =
      let more = drop (length old) new in
      let digits = take (2 * id_len kind) old in
      ap (take (2 * id_len kind)) (starts_with_rest new old starts)
      ∙ digits_in_front (old ++ more) digits (heading.Object type size) (found.0 ++ more)
      (object_more old digits (heading.Object type size) found.0 more found.1)

  -- how long the line is
  pub line_length : (view : List ℕ) (line size : ℕ) (found : FindsObject kind type view line size) → line ≡ length found.1.0
  line_length view line size found =
      omega (arith, ap length found.1.1.whole, length-append found.1.0 (10 ∷ found.0), found.2)

  -- what stands behind the line
  pub behind_line : (view : List ℕ) (line size : ℕ) (found : FindsObject kind type view line size)
      → found.0 ≡ drop (line + 1) view
  behind_line view line size found =
      let head = found.1.0 in
      sym (ap (drop (line + 1)) found.1.1.whole
      ∙ ap (λ k. drop (k + 1) (head ++ 10 ∷ found.0)) (line_length view line size found)
      ∙ drop-append-add head (10 ∷ found.0) 1)

  -- the line is that of the object with these digits
  pub own_line_is : (id view : List ℕ) (line size : ℕ) → FindsObject kind type view line size
      → take (2 * id_len kind) view ≡ encode_lower id → view ≡ (object_line type id size ++ 10 ∷ []) ++ drop (line + 1) view
  own_line_is id view line size found own =
      let head = found.1.2 in
      let is : found.1.0 ≡ object_line type id size =
      head.whole ∙ ap (λ d. d ++ head.tail) own ∙ ap (λ t. encode_lower id ++ t) head.is_tail.1 in
      found.1.1.whole ∙ ap (λ l. l ++ 10 ∷ found.0) is
      ∙ ap (λ l. object_line type id size ++ 10 ∷ l) (behind_line view line size found)
      ∙ sym (append_assoc (object_line type id size) (10 ∷ []) (drop (line + 1) view))

-- what is taken away from the buffer is taken away from all that is left
pub front_taken : (before known : Option (List ℕ)) (view front next : List ℕ) → Keeps before (prepend_known view known)
    → view ≡ front ++ next → Consumes before (prepend_known next known) front
front_taken None known view front next kept whole = tt
front_taken (Some bytes) None view front next kept whole = absurd kept
front_taken (Some bytes) (Some more) view front next kept whole =
    sym kept ∙ ap (λ l. l ++ more) whole ∙ append_assoc front next more

-- the entry of which the line was taken away, and then the contents
entry_taken : (type : ObjectType) (id contents next bytes rest : List ℕ) (size : ℕ) → length contents ≡ size → size < 2 ^ 64
    → bytes ≡ (object_line type id size ++ 10 ∷ []) ++ rest → rest ≡ contents ++ 10 ∷ next
    → BeginsWithEntry type id bytes contents next
entry_taken type id contents next bytes rest size sized fits line is = record {
  whole =
      line ∙ append_assoc (object_line type id size) (10 ∷ []) rest
      ∙ ap (λ n. object_line type id n ++ 10 ∷ rest) (sym sized)
      ∙ ap (λ l. object_line type id (length contents) ++ 10 ∷ l) (is ∙ sym (append_assoc contents (10 ∷ []) next))
      ∙ sym (append_assoc (object_line type id (length contents)) (10 ∷ (contents ++ 10 ∷ [])) next);
  fits = omega (arith, sized, fits);
}

-- contents in front, and more bytes behind
front_is : (view more : List ℕ) (size : ℕ) → size < length view → get_or view size 0 ≡ 10
    → view ++ more ≡ take size view ++ 10 ∷ (drop (size + 1) view ++ more)
front_is view more size within feed =
    ap (λ l. l ++ more) (around_feed view size within feed) ∙ append_assoc (take size view) (10 ∷ drop (size + 1) view) more

-- the same where the bytes may not be known: the line was taken away, and the contents stand in front
pub entry_read : (type : ObjectType) (before known : Option (List ℕ)) (id view : List ℕ) (size : ℕ)
    → Consumes before (prepend_known view known) (object_line type id size ++ 10 ∷ []) → size < length view
    → get_or view size 0 ≡ 10 → size < 2 ^ 64
    → IfSome before (λ bytes. (next : List ℕ) × BeginsWithEntry type id bytes (take size view) next)
entry_read type None known id view size line within feed fits = tt
entry_read type (Some bytes) None id view size line within feed fits = absurd line
entry_read type (Some bytes) (Some more) id view size line within feed fits = (
  drop (size + 1) view ++ more,
  entry_taken type id (take size view) (drop (size + 1) view ++ more) bytes (view ++ more) size
      (length-take-le size view (omega (arith, within))) fits line (front_is view more size within feed),
)

-- and then were taken away too
pub entry_passed : (type : ObjectType) (before known : Option (List ℕ)) (id view : List ℕ) (size : ℕ)
    → Consumes before (prepend_known view known) (object_line type id size ++ 10 ∷ []) → size < length view
    → get_or view size 0 ≡ 10 → size < 2 ^ 64
    → BothKnown (λ bytes next. BeginsWithEntry type id bytes (take size view) next) before
    (prepend_known (drop (size + 1) view) known)
entry_passed type None known id view size line within feed fits = tt
entry_passed type (Some bytes) None id view size line within feed fits = absurd line
entry_passed type (Some bytes) (Some more) id view size line within feed fits =
    entry_taken type id (take size view) (drop (size + 1) view ++ more) bytes (view ++ more) size
    (length-take-le size view (omega (arith, within))) fits line (front_is view more size within feed)

-- what follows from a relation holds too
pub both_weaker : (P Q : List ℕ → List ℕ → Type 0) (before now : Option (List ℕ))
    → ((bytes next : List ℕ) → P bytes next → Q bytes next) → BothKnown P before now → BothKnown Q before now
both_weaker P Q None now weaker h = tt
both_weaker P Q (Some bytes) None weaker h = absurd h
both_weaker P Q (Some bytes) (Some next) weaker h = weaker bytes next h
