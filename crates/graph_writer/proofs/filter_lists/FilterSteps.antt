-- The filters of a plan, as they are read in its file.
use Rattle.std.proofs.Common.{◌≡◌, ◌≢◌, ℕ, zero, suc, ◌+◌, ◌-◌, ◌*◌, ◌^◌, ◌<◌, ◌≤◌, Bool, false, List, [], ◌∷◌, ◌++◌}
use Rattle.std.proofs.Common.{length, take, drop, get_or, slice_range, Option, Some, None}
use Rattle.std.proofs.Common.{not, refl, sym, ap, ◌∙◌, arith, length-append}
use Rattle.std.specs.Prelude.{◌==◌, ◌||◌, nat_lt, is_none, if◌then◌else◌}
use Rattle.std.specs.Int.{w32, from_be_bytes}
use Rattle.std.proofs.Math.Dec.{eqb-suc-zero}
use Rattle.std.proofs.lemmas.Bool.{le-ltb, eq-eqb}
use Rattle.gix_chunk_core.specs.FirstFault.{◌when◌, ◌otherwise◌}
use Rattle.graph_format.specs.Integers.{word_in}
use Rattle.changed_paths.specs.Filters.{version_of, start_of, end_of, filter_of, filter_bytes, IsRising, places_refusal}
use Rattle.changed_paths.specs.Filters.{filters_refusal}
use Rattle.changed_paths.specs.declared.filters.LayerFiltersError.{LayerFiltersError}
use Rattle.changed_paths.specs.declared.filters.LayerFiltersError.TheVariants.{IndexSize, DataSize, Version, Hashes, NoBits}
use Rattle.changed_paths.specs.declared.filters.LayerFiltersError.TheVariants.{LeftOver}
use Rattle.changed_paths.proofs.PlaceLemmas.{all_fit}
use Rattle.graph_encoder.specs.StoredNumbers.{numbers_at_head}
use Rattle.graph_encoder.specs.Written.{words_bytes, filter_index, filter_data, numbers_before}
use Rattle.graph_encoder.proofs.OffsetLemmas.{word_in-words_bytes}
use Rattle.graph_encoder.proofs.Pieces.{length-words_bytes}
use Rattle.graph_levels.specs.ListEnds.{start_in}
use Rattle.graph_levels.proofs.ListLemmas.{range_before}
use Rattle.graph_writer.specs.NewFilters.{filter_numbers, filter_count, new_filter, AreRightNumbers}
use Rattle.graph_writer.specs.declared.filters.NewFilters.{NewFilters}

-- what stands behind other bytes
drop-behind : (front bytes : List ℕ) (n a : ℕ) → n ≡ length front → drop (n + a) (front ++ bytes) ≡ drop a bytes
drop-behind [] bytes n a size = ap (λ (k : ℕ). drop k bytes) (let same : n + a ≡ a = omega (arith, size) in same)
drop-behind (x ∷ front) bytes n a size =
    ap (λ (k : ℕ). drop k (x ∷ (front ++ bytes))) (let same : n + a ≡ suc (length front + a) = omega (arith, size) in same)
    ∙ drop-behind front bytes (length front) a refl

range-behind : (front bytes : List ℕ) (n a b : ℕ) → n ≡ length front
    → slice_range (front ++ bytes) (n + a) (n + b) ≡ slice_range bytes a b
range-behind front bytes n a b size =
    ap (take (n + b - (n + a))) (drop-behind front bytes n a size)
    ∙ ap (λ (k : ℕ). take k (drop a bytes)) (let same : n + b - (n + a) ≡ b - a = omega arith in same)

-- a number that stands before other bytes
word-before : (ns bytes : List ℕ) (i : ℕ) → i < length ns → get_or ns i 0 < 2 ^ 32
    → word_in (words_bytes ns ++ bytes) i ≡ get_or ns i 0
word-before ns bytes i within fits =
    ap (from_be_bytes w32)
    (range_before (words_bytes ns) bytes (4 * i) (4 * i + 4) (omega arith) (omega (arith, length-words_bytes ns)))
    ∙ word_in-words_bytes ns i within fits

-- nothing refuses filters of which this holds
none-of : (errors : ℕ → LayerFiltersError) (a b c d e g : Bool) (places : Option LayerFiltersError) → a ≡ false → b ≡ false
    → c ≡ false → d ≡ false → e ≡ false → places ≡ None → g ≡ false
    → (errors 0 when a otherwise errors 1 when b otherwise errors 2 when c otherwise errors 3 when d otherwise errors 4 when e
    otherwise places otherwise errors 5 when g) ≡ None
none-of errors a b c d e g places h1 h2 h3 h4 h5 h6 h7 = rw (h1, h2, h3, h4, h5, h6, h7) refl

not-zero : (n : ℕ) → 0 < n → (n == 0) ≡ false
not-zero zero some = absurd (omega (arith, some))
not-zero (suc n) some = eqb-suc-zero n

there : {X : Type 0} (o : Option X) → o ≢ None → is_none o ≡ false
there None some = absurd (some refl)
there (Some x) some = refl

module _ (filters : NewFilters) where
  abbrev ends : List ℕ
  ends = filters.parts.ends.items

  abbrev bytes : List ℕ
  bytes = filters.parts.bytes.items

  abbrev index : List ℕ
  index = filter_index filters.parts

  abbrev body : List ℕ
  body = filter_data filters.parts

  abbrev before : List ℕ
  before = numbers_before filters.parts.numbers

  read-end : (p : ℕ) → p < length ends → end_of index p ≡ get_or ends p 0
  read-end p lt =
      word_in-words_bytes filters.parts.ends.items p lt
      (omega (arith, filters.whole.within p lt, filters.few))

  read-start : (p : ℕ) → p ≤ length ends → start_of index p ≡ start_in ends p
  unfolding start_in
  read-start zero le = refl
  read-start (suc p) le = read-end p (omega (arith, le))

  length-before : length (words_bytes before) ≡ 12
  length-before = length-words_bytes (numbers_before filters.parts.numbers)

  pub read-filter : (p : ℕ) → p < filter_count filters → filter_of index body p ≡ new_filter filters p
  unfolding new_filter
  read-filter p lt =
      range-behind (words_bytes (numbers_before filters.parts.numbers)) filters.parts.bytes.items 12
      (start_of index p) (end_of index p) (sym length-before)
      ∙ ap (λ (a : ℕ). slice_range bytes a (end_of index p)) (read-start p (omega (arith, lt)))
      ∙ ap (λ (b : ℕ). slice_range bytes (start_in ends p) b) (read-end p lt)

  number-at : (i : ℕ) → i < 3 → word_in body i ≡ get_or before i 0
  number-at i lt =
      word-before (numbers_before filters.parts.numbers) filters.parts.bytes.items i lt (filters.fit i 0 lt)

  rising : IsRising (length ends) index
  rising p lt =
      omega (arith, read-start p (omega (arith, lt)), read-end p lt, filters.whole.rising p lt)

  closed : start_of index (length ends) ≡ length bytes
  closed = read-start (length filters.parts.ends.items) (omega arith) ∙ filters.whole.closed

  length-data : length body ≡ 12 + length bytes
  length-data =
      length-append (words_bytes (numbers_before filters.parts.numbers)) filters.parts.bytes.items
      ∙ ap (λ (n : ℕ). n + length filters.parts.bytes.items) length-before

  pub read-numbers : numbers_at_head body ≡ Some (filter_numbers filters)
  read-numbers =
      rw (
        le-ltb (length body) 12 (omega (arith, length-data)),
        number-at 0 (omega arith),
        number-at 1 (omega arith),
        number-at 2 (omega arith),
      ) refl

  few-hashes : (n : ℕ) → 0 < n → n ≤ 65535 → (n == 0 || nat_lt 65535 n) ≡ false
  few-hashes n some few = rw (not-zero n some, le-ltb 65535 n few) refl

  pub accepted : (n : ℕ) → n ≡ filter_count filters → AreRightNumbers (filter_numbers filters)
      → filters_refusal n index body ≡ None
  unfolding filters_refusal
  accepted n many right =
      let error : ℕ → LayerFiltersError = λ k.
      if k == 0 then IndexSize else if k == 1 then DataSize else if k == 2 then Version (word_in body 0)
      else if k == 3 then Hashes (word_in body 1) else if k == 4 then NoBits else LeftOver in
      let size : not (length index == 4 * n) ≡ false =
      ap not (eq-eqb (length index) (4 * n) (omega (arith, length-words_bytes filters.parts.ends.items, many))) in
      let long : nat_lt (length body) 12 ≡ false = le-ltb (length body) 12 (omega (arith, length-data)) in
      let version : is_none (version_of (word_in body 0)) ≡ false =
      ap (λ (v : ℕ). is_none (version_of v)) (number-at 0 (omega arith)) ∙ there _ right.version in
      let hashes : (word_in body 1 == 0 || nat_lt 65535 (word_in body 1)) ≡ false =
      ap (λ (v : ℕ). v == 0 || nat_lt 65535 v) (number-at 1 (omega arith))
      ∙ few-hashes _ right.some_hashes right.few_hashes in
      let bits : (word_in body 2 == 0) ≡ false =
      ap (λ (v : ℕ). v == 0) (number-at 2 (omega arith)) ∙ not-zero _ right.bits in
      let room : filter_bytes body ≡ length bytes = omega (arith, length-data) in
      let end : start_of index n ≡ length bytes = ap (start_of index) many ∙ closed in
      let places : places_refusal n index (filter_bytes body) ≡ None =
      all_fit n index (filter_bytes body) (λ p lt. rising p (omega (arith, lt, many))) (omega (arith, room, end)) in
      let over : nat_lt (start_of index n) (filter_bytes body) ≡ false = le-ltb _ _ (omega (arith, room, end)) in
      none-of error _ _ _ _ _ _ _ size long version hashes bits places over
