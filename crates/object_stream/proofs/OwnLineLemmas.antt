-- The line of an object that is expected, read in one go.
use Rattle.std.proofs.Common.{◌≡◌, ◌⊎◌, ℕ, ◌+◌, ◌*◌, ◌-◌, ◌/◌, ◌%◌, ◌^◌, ◌<◌, ◌≤◌, List, [], ◌∷◌, ◌++◌, length, take, drop}
use Rattle.std.proofs.Common.{get_or, decimal, refl, sym, ap, ◌∙◌, arith, inl, inr, append_assoc, take-append-drop, add-one}
use Rattle.std.proofs.lemmas.Fmt.{decimal_digit, decimal_step}
use Rattle.std.proofs.lemmas.Grind.{common_steps}
use Rattle.std.proofs.lemmas.List.{length-append, length-take-le}
use Rattle.std.proofs.Math.Seq.{drop-cons}
use Rattle.object_stream.specs.TypedObject.{type_word}
use Rattle.std.specs.List.{AllPass, IsSplitAt}
use Rattle.gix_hash_core.specs.Kind.{id_len}
use Rattle.gix_hash_core.specs.declared.kind.Kind.{Kind}
use Rattle.gix_hash_core.specs.declared.kind.Kind.TheVariants.{Sha1, Sha256}
use Rattle.object_stream.specs.BatchEntry.{is_lower_digit, type_and_size}
use Rattle.object_stream.specs.NextEntry.{BeginsWithObject}
use Rattle.object_stream.specs.FoundEntry.{FindsObject}
use Rattle.object_stream.specs.declared.heading.Heading.TheVariants as told
use Rattle.object_stream.specs.declared.object_type.ObjectType.{ObjectType}
use Rattle.object_stream.proofs.TypedLineLemmas.{length-own, own-no_feed}
use Rattle.object_stream.proofs.LineLemmas.{put_together}

-- the number that was read of so many digits: none yet, or what they are in decimal
abbrev pub IsRead : List ℕ → ℕ → ℕ → Type 0
IsRead text place size = ((place ≡ 0) × (size ≡ 0)) ⊎ ((0 < place) × (take place text ≡ decimal size))

-- one more digit
pub one_more_read : (text : List ℕ) (place size : ℕ) → place < length text → IsRead text place size
    → 48 ≤ get_or text place 0 → get_or text place 0 ≤ 57
    → size < 10 ^ 18 → (0 < place → 0 < size) → IsRead text (place + 1) (size * 10 + (get_or text place 0 - 48))
one_more_read text place size within read low high small some =
    inr (
      omega arith,
      elim read [
        | inl none ↦ first none.0 none.1
        | inr more ↦ next more.0 more.1
      ],
    )
  where
    last : take (place + 1) text ≡ take place text ++ (get_or text place 0 ∷ [])
    last = grind (arith, common_steps)

    first : place ≡ 0 → size ≡ 0 → take (place + 1) text ≡ decimal (size * 10 + (get_or text place 0 - 48))
    first at_first zero =
        let digit : size * 10 + (get_or text place 0 - 48) ≡ get_or text place 0 - 48 = omega (arith, zero) in
        let byte : 48 + (get_or text place 0 - 48) ≡ get_or text place 0 = omega (arith, low) in
        last ∙ ap (λ n. take n text ++ (get_or text place 0 ∷ [])) at_first
        ∙ sym (ap decimal digit ∙ decimal_digit (get_or text place 0 - 48) (omega arith) ∙ ap (λ b. b ∷ []) byte)

    next : 0 < place → take place text ≡ decimal size → take (place + 1) text ≡ decimal (size * 10 + (get_or text place 0 - 48))
    next later same =
        let n = size * 10 + (get_or text place 0 - 48) in
        let front : n / 10 ≡ size = omega (arith, low, high) in
        let end : 48 + n % 10 ≡ get_or text place 0 = omega (arith, low, high) in
        let step = decimal_step n (omega (arith, some later)) (omega (arith, small)) in
        last ∙ ap (λ l. l ++ (get_or text place 0 ∷ [])) (same ∙ ap decimal (sym front))
        ∙ ap (λ b. decimal (n / 10) ++ (b ∷ [])) (sym end) ∙ sym step

-- a line feed behind the digits
pub feed_behind : (text : List ℕ) (place size : ℕ) → place < length text → IsRead text place size → 0 < place
    → get_or text place 0 ≡ 10
    → (next : List ℕ) × (text ≡ decimal size ++ 10 ∷ next) × (place ≡ length (decimal size))
feed_behind text place size within read later feed =
    elim read [
      | inl none ↦ absurd (omega (arith, none.0, later))
      | inr more ↦ (
        drop (place + 1) text,
        sym (take-append-drop place text)
            ∙ ap (λ l. take place text ++ l) (drop-cons text place 0 within
            ∙ ap (λ n. get_or text place 0 ∷ drop n text) (sym (add-one place)))
            ∙ ap (λ b. take place text ++ (b ∷ drop (place + 1) text)) feed
            ∙ ap (λ l. l ++ (10 ∷ drop (place + 1) text)) more.1,
        sym (length-take-le place text (omega (arith, within))) ∙ ap length more.1,
      )
    ]

-- how long ids are
id_len-short : (kind : Kind) → id_len kind ≤ 32
id_len-short Sha1 = omega arith
id_len-short Sha256 = omega arith

-- the parts of the line, put together
pub own_found : (kind : Kind) (type : ObjectType) (n : ℕ) (bytes digits tail word text next : List ℕ) (wide count size : ℕ)
    → n ≡ id_len kind
    → IsSplitAt bytes (2 * n) digits tail → AllPass is_lower_digit digits → word ≡ 32 ∷ type_word type
    → wide ≡ length word → tail ≡ word ++ text
    → text ≡ decimal size ++ 10 ∷ next → size < 2 ^ 64 → count ≡ length (decimal size)
    → FindsObject kind type bytes (2 * n + wide + count) size
own_found kind type n bytes digits tail word text next wide count size sized split lower spaced width behind number fits counted =
    let line = digits ++ type_and_size type size in
    let twice : length digits ≡ 2 * id_len kind = grind (arith, split, sized) in
    let short : length digits ≤ 64 = omega (arith, twice, id_len-short kind) in
    let front : take (2 * id_len kind) bytes ≡ digits = ap (λ k. take (2 * k) bytes) (sym sized) ∙ sym split.1 in
    let whole : bytes ≡ line ++ 10 ∷ next =
    sym (put_together _ bytes digits tail split)
    ∙ ap (λ l. digits ++ l) (behind ∙ ap (λ w. w ++ text) spaced ∙ ap (λ l. 32 ∷ (type_word type ++ l)) number
    ∙ ap (λ l. 32 ∷ l) (sym (append_assoc (type_word type) (decimal size) (10 ∷ next))))
    ∙ sym (append_assoc digits (type_and_size type size) (10 ∷ next)) in
    let head : BeginsWithObject kind bytes digits (told.Object type size) next = (
      line,
      record { whole = whole; one = own-no_feed type digits size lower fits; short = length-own type digits size short fits },
      record { sized = twice; lower = lower; tail = type_and_size type size; whole = refl; is_tail = (fits, refl) },
    ) in (
      next,
      rw front head,
      omega (
        arith,
        ap length whole,
        length-append line (10 ∷ next),
        length-append digits (type_and_size type size),
        length-append (type_word type) (decimal size),
        twice,
        width,
        ap length spaced,
        sized,
        counted,
      ),
    )
