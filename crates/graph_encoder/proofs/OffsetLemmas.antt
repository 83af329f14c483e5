-- the offsets of dates that are put one after another, and are read again
use Rattle.std.proofs.Common.{◌≡◌, ℕ, zero, suc, ◌+◌, ◌-◌, ◌*◌, ◌/◌, ◌^◌, ◌<◌, ◌≤◌, List, [], ◌∷◌, ◌++◌, length, map, take}
use Rattle.std.proofs.Common.{get_or}
use Rattle.std.proofs.Common.{slice_range, Option, Some, None, All, IfSome, MatchOption, Bool, true, false, cond}
use Rattle.std.proofs.Common.{refl, sym, ap, ◌∙◌, arith, add-zero, append_assoc, length-append, ⊎_elim}
use Rattle.std.specs.Prelude.{zip, codes, unwrap_or, option_map}
use Rattle.std.specs.Int.{w32, w64, from_be_bytes}
use Rattle.std.specs.List.{range_with_len, flat_map}
use Rattle.std.proofs.Math.Nat.{mul-div_cancel_left}
use Rattle.std.proofs.lemmas.Bool.{lt-ltb, le-ltb, lt-leb, le-leb, cases_lt}
use Rattle.std.proofs.lemmas.List.FromFn.{get_or-map-range_with_len, length-map-range_with_len}
use Rattle.std.proofs.lemmas.List.Sums.{length-filter, count_by-le-length}
use Rattle.std.proofs.lemmas.List.{length-take-le}
use Rattle.graph_format.specs.Format.{chunk_of}
use Rattle.graph_format.specs.Integers.{word_in, long_in}
use Rattle.graph_format.specs.Layer.{Layer, bytes_of}
use Rattle.graph_format.specs.OptionalChunks.{offset_of, date_of, stored_dates, HasDates, times_in, dates_in}
use Rattle.graph_encoder.specs.Chunks.{word_bytes, long_bytes, unless_empty}
use Rattle.graph_encoder.specs.ExtraEdges.{top_bit}
use Rattle.graph_encoder.specs.DateOffsets.{is_large, large_offsets, offset_word, offset_words}
use Rattle.graph_encoder.specs.Plan.{AreOffsets}
use Rattle.graph_encoder.specs.Written.{words_bytes, longs_bytes}
use Rattle.graph_encoder.proofs.Parts.{slice_range-middle}
use Rattle.graph_encoder.proofs.BuiltTable.{length-long_bytes, long_bytes-read}
use Rattle.graph_encoder.proofs.Pieces.{All-first, All-others, AllSized, length-flat_map-sized, length-word_bytes}
use Rattle.graph_encoder.proofs.Pieces.{word_bytes-read}
use Rattle.graph_encoder.proofs.PossibleChunks.{unless_empty-bytes}

-- one of several pieces of one size
piece_at : {X : Type 0} (size : ℕ) (f : X → List ℕ) (d : X) (xs : List X) (i : ℕ) (front : List ℕ) (a b : ℕ)
    → AllSized size f xs → i < length xs → a ≡ length front + size * i → b ≡ length front + size * i + size
    → slice_range (front ++ flat_map f xs) a b ≡ f (get_or xs i d)
piece_at size f d [] i front a b h e k l = absurd (omega (arith, e))
piece_at size f d (x ∷ xs) zero front a b h e k l =
    let first : length (f x) ≡ size = All-first (λ y. length (f y) ≡ size) x xs h in
    slice_range-middle front (f x) (flat_map f xs) a b (omega (arith, k)) (omega (arith, l, first))
piece_at size f d (x ∷ xs) (suc i) front a b h e k l =
    let first : length (f x) ≡ size = All-first (λ y. length (f y) ≡ size) x xs h in
    ap (λ (bytes : List ℕ). slice_range bytes a b) (sym (append_assoc front (f x) (flat_map f xs)))
    ∙ piece_at size f d xs i (front ++ f x) a b (All-others (λ y. length (f y) ≡ size) x xs h) (omega (arith, e))
    (omega (arith, k, first, length-append front (f x))) (omega (arith, l, first, length-append front (f x)))

-- a number is read where it was put
pub word_in-words_bytes : (numbers : List ℕ) (i : ℕ) → i < length numbers → get_or numbers i 0 < 2 ^ 32
    → word_in (words_bytes numbers) i ≡ get_or numbers i 0
unfolding words_bytes
word_in-words_bytes numbers i h e =
    ap (from_be_bytes w32)
    (piece_at 4 word_bytes 0 numbers i [] (4 * i) (4 * i + 4) (λ k d l. length-word_bytes _) h (omega arith) (omega arith))
    ∙ word_bytes-read (get_or numbers i 0) e

long_in-longs_bytes : (numbers : List ℕ) (i : ℕ) → i < length numbers → get_or numbers i 0 < 2 ^ 64
    → long_in (longs_bytes numbers) i ≡ get_or numbers i 0
unfolding longs_bytes
long_in-longs_bytes numbers i h e =
    ap (from_be_bytes w64)
    (piece_at 8 long_bytes 0 numbers i [] (8 * i) (8 * i + 8) (λ k d l. length-long_bytes _) h (omega arith) (omega arith))
    ∙ long_bytes-read (get_or numbers i 0) e

pub length-longs_bytes : (numbers : List ℕ) → length (longs_bytes numbers) ≡ 8 * length numbers
unfolding longs_bytes
length-longs_bytes numbers = length-flat_map-sized 8 long_bytes numbers (λ k d h. length-long_bytes _)

-- the words, one by one
pub length-offset_words : (offsets : List ℕ) → length (offset_words offsets) ≡ length offsets
length-offset_words offsets = length-map-range_with_len (offset_word offsets) 0 (length offsets)

pub offset_words-at : (offsets : List ℕ) (i : ℕ) → i < length offsets
    → get_or (offset_words offsets) i 0 ≡ offset_word offsets i
offset_words-at offsets i h = get_or-map-range_with_len (offset_word offsets) 0 (length offsets) i i 0 h (omega arith)

pub large_offsets-few : (offsets : List ℕ) → length (large_offsets offsets) ≤ length offsets
large_offsets-few offsets = omega (arith, length-filter is_large offsets, count_by-le-length is_large offsets)

pub large_before-few : (offsets : List ℕ) (i : ℕ) → i ≤ length offsets → length (large_offsets (take i offsets)) ≤ i
large_before-few offsets i h = omega (arith, large_offsets-few (take i offsets), length-take-le i offsets h)

-- one of the large numbers, by how many come before it
less_kept : (b : Bool) (x : ℕ) (some all : List ℕ) → length some < length all
    → length (cond b (x ∷ some) some) < length (cond b (x ∷ all) all)
less_kept true x some all h = omega (arith, h)
less_kept false x some all h = h

place_kept : (b : Bool) (x v : ℕ) (some all : List ℕ) → get_or all (length some) 0 ≡ v
    → get_or (cond b (x ∷ all) all) (length (cond b (x ∷ some) some)) 0 ≡ v
place_kept true x v some all h = h
place_kept false x v some all h = h

large-within : (offsets : List ℕ) (i : ℕ) → i < length offsets → is_large (get_or offsets i 0) ≡ true
    → length (large_offsets (take i offsets)) < length (large_offsets offsets)
large-within [] i h e = absurd (omega (arith, h))
large-within (x ∷ xs) zero h e = rw e (omega arith)
large-within (x ∷ xs) (suc i) h e =
    less_kept (is_large x) x (large_offsets (take i xs)) (large_offsets xs) (large-within xs i (omega (arith, h)) e)

large-at : (offsets : List ℕ) (i : ℕ) → i < length offsets → is_large (get_or offsets i 0) ≡ true
    → get_or (large_offsets offsets) (length (large_offsets (take i offsets))) 0 ≡ get_or offsets i 0
large-at [] i h e = absurd (omega (arith, h))
large-at (x ∷ xs) zero h e = rw e refl
large-at (x ∷ xs) (suc i) h e =
    place_kept (is_large x) x (get_or xs i 0) (large_offsets (take i xs)) (large_offsets xs) (large-at xs i (omega (arith, h)) e)

-- what a word and the large numbers say
small-said : (words overflow : List ℕ) (i x : ℕ) → word_in words i ≡ x → x < 2 ^ 31 → offset_of words overflow i ≡ Some x
small-said words overflow i x h e = rw (h, lt-ltb x (2 ^ 31) e) refl

large-said : (words overflow : List ℕ) (i k x : ℕ) → word_in words i ≡ top_bit + k → k < length overflow / 8
    → long_in overflow k ≡ x → offset_of words overflow i ≡ Some x
large-said words overflow i k x h e l =
    let rest : top_bit + k - 2 ^ 31 ≡ k = omega arith in
    rw (h, le-ltb (top_bit + k) (2 ^ 31) (omega arith), rest, lt-ltb k (length overflow / 8) e, l) refl

small-word : (offsets : List ℕ) (i : ℕ) → get_or offsets i 0 < 2 ^ 31 → offset_word offsets i ≡ get_or offsets i 0
small-word offsets i h =
    ap (λ (b : Bool). cond b (top_bit + length (large_offsets (take i offsets))) (get_or offsets i 0))
    (lt-leb (2 ^ 31) (get_or offsets i 0) h)

large-word : (offsets : List ℕ) (i : ℕ) → 2 ^ 31 ≤ get_or offsets i 0
    → offset_word offsets i ≡ top_bit + length (large_offsets (take i offsets))
large-word offsets i h =
    ap (λ (b : Bool). cond b (top_bit + length (large_offsets (take i offsets))) (get_or offsets i 0))
    (le-leb (2 ^ 31) (get_or offsets i 0) h)

-- the offset that is read is the one that was put
pub offset_of-written : (offsets : List ℕ) (i : ℕ) → i < length offsets → length offsets < top_bit
    → All (λ offset. offset < 2 ^ 64) offsets
    → offset_of (words_bytes (offset_words offsets)) (longs_bytes (large_offsets offsets)) i ≡ Some (get_or offsets i 0)
offset_of-written offsets i h few fit =
    let counted = length-offset_words offsets in
    let here : get_or (offset_words offsets) i 0 ≡ offset_word offsets i = offset_words-at offsets i h in
    ⊎_elim
    (λ (small : get_or offsets i 0 < 2 ^ 31).
    let word = small-word offsets i small in
    small-said (words_bytes (offset_words offsets)) (longs_bytes (large_offsets offsets)) i (get_or offsets i 0)
    (word_in-words_bytes (offset_words offsets) i (omega (arith, h, counted)) (omega (arith, here, word, small))
    ∙ here ∙ word) small)
    (λ (large : 2 ^ 31 ≤ get_or offsets i 0).
    let word = large-word offsets i large in
    let test : is_large (get_or offsets i 0) ≡ true = le-leb (2 ^ 31) (get_or offsets i 0) large in
    let k : ℕ = length (large_offsets (take i offsets)) in
    let within : length (large_offsets (take i offsets)) < length (large_offsets offsets) = large-within offsets i h test in
    let before : length (large_offsets (take i offsets)) ≤ i = large_before-few offsets i (omega (arith, h)) in
    let place : get_or (large_offsets offsets) (length (large_offsets (take i offsets))) 0 ≡ get_or offsets i 0 =
    large-at offsets i h test in
    let size : length (longs_bytes (large_offsets offsets)) / 8 ≡ length (large_offsets offsets) =
    ap (λ (n : ℕ). n / 8) (length-longs_bytes (large_offsets offsets))
    ∙ mul-div_cancel_left (length (large_offsets offsets)) (omega arith) in
    large-said (words_bytes (offset_words offsets)) (longs_bytes (large_offsets offsets)) i
    (length (large_offsets (take i offsets))) (get_or offsets i 0)
    (word_in-words_bytes (offset_words offsets) i (omega (arith, h, counted)) (omega (arith, here, word, before, h, few))
    ∙ here ∙ word)
    (omega (arith, within, size))
    (long_in-longs_bytes (large_offsets offsets) (length (large_offsets (take i offsets))) within
    (omega (arith, place, fit i 0 h)) ∙ place))
    (cases_lt (get_or offsets i 0) (2 ^ 31))

-- sums, number by number
sums_of : (f : ℕ → ℕ) (times offsets : List ℕ) (k : ℕ) → length times ≡ length offsets
    → ((i : ℕ) → i < length times → f (k + i) ≡ get_or times i 0 + get_or offsets i 0)
    → map f (range_with_len k (length times)) ≡ map (λ pair. pair.0 + pair.1) (zip times offsets)
sums_of f [] offsets k h e = refl
sums_of f (time ∷ times) [] k h e = absurd (omega (arith, h))
sums_of f (time ∷ times) (offset ∷ offsets) k h e =
    let head : f k ≡ time + offset = ap f (sym (add-zero k)) ∙ e 0 (omega arith) in
    let rest : map f (range_with_len (k + 1) (length times)) ≡ map (λ pair. pair.0 + pair.1) (zip times offsets) =
    sums_of f times offsets (k + 1) (omega (arith, h))
    (λ i l. ap f (let same : k + 1 + i ≡ k + suc i = omega arith in same) ∙ e (suc i) (omega (arith, l))) in
    ap (λ (n : ℕ). n ∷ map f (range_with_len (k + 1) (length times))) head
    ∙ ap (λ (ns : List ℕ). (time + offset) ∷ ns) rest

stored_dates-written : (offsets times : List ℕ) → length times ≡ length offsets → length offsets < top_bit
    → All (λ offset. offset < 2 ^ 64) offsets
    → stored_dates (words_bytes (offset_words offsets)) (longs_bytes (large_offsets offsets)) times
    ≡ map (λ pair. pair.0 + pair.1) (zip times offsets)
unfolding stored_dates
stored_dates-written offsets times h few fit =
    sums_of (date_of (words_bytes (offset_words offsets)) (longs_bytes (large_offsets offsets)) times) times offsets 0 h
    (λ i l.
    ap (date_of (words_bytes (offset_words offsets)) (longs_bytes (large_offsets offsets)) times)
    (let same : 0 + i ≡ i = omega arith in same)
    ∙ ap (λ (o : Option ℕ). get_or times i 0 + unwrap_or o 0)
    (offset_of-written offsets i (omega (arith, h, l)) few fit))

-- A layer with these two chunks has these dates.
pub dates-said : (o : Option (List ℕ)) (layer : Layer) (n : ℕ)
    → chunk_of (bytes_of layer) (codes "GDA2") ≡ option_map (λ offsets. words_bytes (offset_words offsets)) o
    → chunk_of (bytes_of layer) (codes "GDO2") ≡ unless_empty (longs_bytes (large_offsets (unwrap_or o [])))
    → IfSome o (AreOffsets n) → length (times_in layer) ≡ n → n < top_bit
    → MatchOption o (HasDates layer → ⊥) (λ offsets.
    HasDates layer × (dates_in layer ≡ map (λ pair. pair.0 + pair.1) (zip (times_in layer) offsets)))
unfolding dates_in
dates-said None layer n first second h times few = λ has. has first
dates-said (Some offsets) layer n first second h times few = (
  λ none. let both : Some (words_bytes (offset_words offsets)) ≡ None = sym first ∙ none in absurd (cc),
  ap (λ (o : Option (List ℕ)). stored_dates (unwrap_or o []) (unwrap_or (chunk_of (bytes_of layer) (codes "GDO2")) [])
      (times_in layer)) first
      ∙ ap (λ (o : Option (List ℕ)). stored_dates (words_bytes (offset_words offsets)) (unwrap_or o []) (times_in layer)) second
      ∙ ap (λ (bytes : List ℕ). stored_dates (words_bytes (offset_words offsets)) bytes (times_in layer))
      (unless_empty-bytes (longs_bytes (large_offsets offsets)))
      ∙ stored_dates-written offsets (times_in layer) (omega (arith, times, h.count)) (omega (arith, h.count, few)) h.fit,
)
