-- What the line of an object is made of.
use Rattle.std.proofs.Common.{◌≡◌, ◌≢◌, ℕ, ◌+◌, ◌/◌, ◌%◌, ◌^◌, ◌<◌, ◌≤◌, true, List, [], ◌∷◌, ◌++◌, length}
use Rattle.std.proofs.Common.{get_or, decimal, refl, arith}
use Rattle.std.specs.Prelude.{All}
use Rattle.std.specs.List.{AllByRecursion, AllPass}
use Rattle.std.proofs.lemmas.Fmt.{decimal_by_steps, length-decimal-le}
use Rattle.std.proofs.lemmas.List.{length-append}
use Rattle.std.proofs.lemmas.List.Elements.{All-nil, All-cons, All-push, All-append, All-weaker, All-head, All-tail}
use Rattle.std.proofs.lemmas.List.Elements.{All-get_or, All-from_recursion}
use Rattle.hex.specs.Hex.{encode_lower, encode_with, lower_digits}
use Rattle.object_stream.specs.BatchEntry.{is_lower_digit, type_and_size, HasNoFeed}
use Rattle.object_stream.specs.TypedObject.{type_word}
use Rattle.object_stream.specs.declared.object_type.ObjectType.{ObjectType}
use Rattle.object_stream.specs.declared.object_type.ObjectType.TheVariants.{Commit, Tree, Blob, Tag}

-- the digits of the table
lower_digits-lower : AllPass is_lower_digit lower_digits
lower_digits-lower =
    All-from_recursion (λ b. is_lower_digit b ≡ true) lower_digits (
      refl,
      (
        refl,
        (
          refl,
          (
            refl,
            (refl, (refl, (refl, (refl, (refl, (refl, (refl, (refl, (refl, (refl, (refl, (refl, tt)))))))))))),
          ),
        ),
      ),
    )

digit_of_table : (k : ℕ) → k < 16 → is_lower_digit (get_or lower_digits k 0) ≡ true
digit_of_table k h = All-get_or (λ b. is_lower_digit b ≡ true) lower_digits k 0 h lower_digits-lower

-- the digits of bytes are lower-case digits
pub encode_lower-lower : (id : List ℕ) → All (λ b. b < 256) id → AllPass is_lower_digit (encode_lower id)
unfolding encode_with
encode_lower-lower [] bytes = All-nil (λ b. is_lower_digit b ≡ true)
encode_lower-lower (b ∷ id) bytes =
    let small : b < 256 = All-head (λ b. b < 256) b id bytes in
    let more = encode_lower-lower id (All-tail (λ b. b < 256) b id bytes) in
    All-cons (λ b. is_lower_digit b ≡ true) (get_or lower_digits (b / 16) 0) (get_or lower_digits (b % 16) 0 ∷ encode_lower id)
    (digit_of_table (b / 16) (omega arith))
    (All-cons (λ b. is_lower_digit b ≡ true) (get_or lower_digits (b % 16) 0) (encode_lower id)
    (digit_of_table (b % 16) (omega arith)) more)

lower-no_feed : (b : ℕ) → is_lower_digit b ≡ true → b ≢ 10
lower-no_feed b lower same = let no : is_lower_digit 10 ≡ true = rw same at lower in cc no

-- nor have numbers a line feed
decimal-no_feed : (n : ℕ) → n < 2 ^ 64 → HasNoFeed (decimal n)
decimal-no_feed n small =
    decimal_by_steps (λ n ds. HasNoFeed ds)
    (λ n few. All-cons (λ b. b ≢ 10) (48 + n) [] (λ e. omega (arith, e)) (All-nil (λ b. b ≢ 10)))
    (λ n ds many more. All-push (λ b. b ≢ 10) ds (48 + n % 10) more (λ e. omega (arith, e))) n small

-- nor the word of a type
word-no_feed : (type : ObjectType) → HasNoFeed (32 ∷ type_word type)
word-no_feed type = All-from_recursion (λ b. b ≢ 10) (32 ∷ type_word type) (each type)
  where
    each : (type : ObjectType) → AllByRecursion (λ b. b ≢ 10) (32 ∷ type_word type)
    each Commit = (
      λ e. cc e,
      (λ e. cc e, (λ e. cc e, (λ e. cc e, (λ e. cc e, (λ e. cc e, (λ e. cc e, (λ e. cc e, tt))))))),
    )
    each Tree = (λ e. cc e, (λ e. cc e, (λ e. cc e, (λ e. cc e, (λ e. cc e, (λ e. cc e, tt))))))
    each Blob = (λ e. cc e, (λ e. cc e, (λ e. cc e, (λ e. cc e, (λ e. cc e, (λ e. cc e, tt))))))
    each Tag = (λ e. cc e, (λ e. cc e, (λ e. cc e, (λ e. cc e, (λ e. cc e, tt)))))

-- the line of an object with these digits
pub own-no_feed : (type : ObjectType) (digits : List ℕ) (size : ℕ) → AllPass is_lower_digit digits → size < 2 ^ 64
    → HasNoFeed (digits ++ type_and_size type size)
own-no_feed type digits size lower small =
    let is = λ (b : ℕ). b ≢ 10 in
    All-append is digits (type_and_size type size)
    (All-weaker (λ b. is_lower_digit b ≡ true) is lower-no_feed digits lower)
    (All-append is (32 ∷ type_word type) (decimal size) (word-no_feed type) (decimal-no_feed size small))

-- how long the word of a type is
word-short : (type : ObjectType) → length (type_word type) ≤ 7
word-short Commit = omega arith
word-short Tree = omega arith
word-short Blob = omega arith
word-short Tag = omega arith

pub length-own : (type : ObjectType) (digits : List ℕ) (size : ℕ) → length digits ≤ 64 → size < 2 ^ 64
    → length (digits ++ type_and_size type size) < 93
length-own type digits size short small =
    let few : length (decimal size) ≤ 20 = length-decimal-le 20 size (omega arith) (omega (arith, small)) small in
    omega (
      arith,
      length-append digits (type_and_size type size),
      length-append (type_word type) (decimal size),
      word-short type,
      few,
    )
