-- the filters of chunks that are not refused
use Rattle.std.proofs.Common.{◌≡◌, ◌==◌, ℕ, zero, suc, ◌+◌, ◌-◌, ◌*◌, ◌/◌, ◌<◌, ◌≤◌, not, Bool, true, false, List, [], ◌∷◌, ◌++◌}
use Rattle.std.proofs.Common.{length, map, take, drop, slice_range, slice_get, Some, None, refl, sym, ap, ◌∙◌, arith}
use Rattle.std.proofs.Common.{Option, is_none, nat_lt, ◌||◌, if◌then◌else◌, length-drop, zero-add}
use Rattle.std.specs.List.{concat, range_with_len}
use Rattle.std.proofs.lemmas.Bool.{eqb-true}
use Rattle.std.proofs.lemmas.List.{append-nil, take-take, take_all}
use Rattle.std.proofs.lemmas.List.Folds.{concat-append, drop_split}
use Rattle.std.proofs.lemmas.List.FromFn.{map-range_with_len_more, length-map-range_with_len}
use Rattle.std.proofs.lemmas.Slice.{between_is}
use Rattle.gix_chunk_core.specs.FirstFault.{◌when◌, ◌otherwise◌}
use Rattle.graph_format.proofs.PieceLemmas.{get-map-range}
use Rattle.graph_format.specs.Integers.{word_in}
use Rattle.changed_paths.specs.declared.filters.HashVersion.{HashVersion}
use Rattle.changed_paths.specs.declared.filters.LayerFiltersError.{LayerFiltersError}
use Rattle.changed_paths.specs.declared.filters.LayerFiltersError.TheVariants.{IndexSize, DataSize, Version, Hashes, NoBits}
use Rattle.changed_paths.specs.declared.filters.LayerFiltersError.TheVariants.{LeftOver}
use Rattle.changed_paths.specs.Filters.{Filters, version_of, start_of, end_of, filter_of, filters_of, filter_bytes}
use Rattle.changed_paths.specs.Filters.{places_refusal, filters_refusal}
use Rattle.changed_paths.proofs.PlaceLemmas.{not_less, placed, ends_within}

-- What chunks that are not refused keep.
pub record AreFilters (commits : ℕ) (index body : List ℕ) : Type 0 where
  pub index_size : length index ≡ 4 * commits
  pub body_size : 12 ≤ length body
  pub places : places_refusal commits index (filter_bytes body) ≡ None
  pub all : filter_bytes body ≤ start_of index commits

not_false : (b : Bool) → not b ≡ false → b ≡ true
not_false true h = refl
not_false false h = cc

-- what holds where none of seven faults is found, the sixth of them found by a search
none_of : (errors : ℕ → LayerFiltersError) (a b c d e g : Bool) (places : Option LayerFiltersError)
    → (errors 0 when a otherwise errors 1 when b otherwise errors 2 when c otherwise errors 3 when d otherwise errors 4 when e
    otherwise places otherwise errors 5 when g) ≡ None
    → (a ≡ false) × (b ≡ false) × (places ≡ None) × (g ≡ false)
none_of errors false false false false false false None none = (refl, refl, refl, refl)
none_of errors true b c d e g places none = absurd (cc)
none_of errors false true c d e g places none = absurd (cc)
none_of errors false false true d e g places none = absurd (cc)
none_of errors false false false true e g places none = absurd (cc)
none_of errors false false false false true g places none = absurd (cc)
none_of errors false false false false false g (Some fault) none = absurd (cc)
none_of errors false false false false false true None none = absurd (cc)

pub are_filters : (commits : ℕ) (index body : List ℕ) → filters_refusal commits index body ≡ None → AreFilters commits index body
unfolding filters_refusal
are_filters commits index body none =
    let error : ℕ → LayerFiltersError = λ n.
    if n == 0 then IndexSize else if n == 1 then DataSize else if n == 2 then Version (word_in body 0)
    else if n == 3 then Hashes (word_in body 1) else if n == 4 then NoBits else LeftOver in
    let all =
    none_of error (not (length index == 4 * commits)) (nat_lt (length body) 12) (is_none (version_of (word_in body 0)))
    (word_in body 1 == 0 || nat_lt 65535 (word_in body 1)) (word_in body 2 == 0)
    (nat_lt (start_of index commits) (filter_bytes body)) (places_refusal commits index (filter_bytes body)) none in
    record {
      index_size = eqb-true _ _ (not_false _ all.0);
      body_size = not_less _ _ all.1;
      places = all.2;
      all = not_less _ _ all.3;
    }

-- so many filters as the index has words
pub length-filters_of : (index body : List ℕ) → length (filters_of index body) ≡ length index / 4
unfolding filters_of
length-filters_of index body = length-map-range_with_len (filter_of index body) 0 (length index / 4)

pub filters_of-at : (index body : List ℕ) (p : ℕ) → p < length index / 4
    → slice_get (filters_of index body) p ≡ Some (filter_of index body p)
unfolding filters_of
filters_of-at index body p below =
    get-map-range (filter_of index body) 0 (length index / 4) p below ∙ ap (λ (i : ℕ). Some (filter_of index body i)) (zero-add p)

-- where the filter of a commit lies
pub record IsPlaced (index body : List ℕ) (p : ℕ) : Type 0 where
  pub index_size : 4 * p + 4 ≤ length index
  pub order : start_of index p ≤ end_of index p
  pub within : 12 + end_of index p ≤ length body

pub is_placed : (index body : List ℕ) (p : ℕ) → filters_refusal (length index / 4) index body ≡ None
    → p < length (filters_of index body) → IsPlaced index body p
is_placed index body p none below =
    let many = length-filters_of index body in
    let are = are_filters (length index / 4) index body none in
    let lies = placed (length index / 4) index (filter_bytes body) p are.places (omega arith) in
    record {
      index_size = omega arith;
      order = lies.0;
      within = omega (arith, are.body_size, lies.1);
    }

-- the same of the filters that a contract sees
pub seen_placed : (index body : List ℕ) (version : HashVersion) (hashes p : ℕ) (seen : Filters)
    → filters_refusal (length index / 4) index body ≡ None
    → record { version = version; hashes = hashes; filters = filters_of index body } ≡ seen → p < length seen.filters
    → IsPlaced index body p
seen_placed index body version hashes p seen none view below =
    let same : length (filters_of index body) ≡ length seen.filters = ap (λ (s : Filters). length s.filters) view in
    is_placed index body p none (omega arith)

pub seen_at : (index body : List ℕ) (version : HashVersion) (hashes p : ℕ) (seen : Filters)
    → record { version = version; hashes = hashes; filters = filters_of index body } ≡ seen → p < length seen.filters
    → slice_get seen.filters p ≡ Some (filter_of index body p)
seen_at index body version hashes p seen view below =
    let same : length (filters_of index body) ≡ length seen.filters = ap (λ (s : Filters). length s.filters) view in
    let many = length-filters_of index body in
    ap (λ (s : Filters). slice_get s.filters p) (sym view) ∙ filters_of-at index body p (omega arith)

-- one after another they are the bytes of the data after its header

joined_to : (bytes : List ℕ) (i j k : ℕ) → i ≤ j → j ≤ k → slice_range bytes i j ++ slice_range bytes j k ≡ slice_range bytes i k
joined_to bytes i j k one two =
    ap (λ (xs : List ℕ). xs ++ slice_range bytes j k) (between_is bytes i j)
    ∙ ap (λ (xs : List ℕ). drop i (take j bytes) ++ xs) (between_is bytes j k)
    ∙ ap (λ (xs : List ℕ). drop i xs ++ drop j (take k bytes)) (sym (take-take j k bytes two))
    ∙ ap (λ (xs : List ℕ). xs ++ drop j (take k bytes)) (sym (between_is (take k bytes) i j))
    ∙ sym (drop_split (take k bytes) i j one)
    ∙ sym (between_is bytes i k)

joined : (index body : List ℕ) (commits n : ℕ) → AreFilters commits index body → n ≤ commits
    → concat (map (filter_of index body) (range_with_len 0 n)) ≡ slice_range body 12 (12 + start_of index n)
joined index body commits zero are le = refl
joined index body commits (suc n) are le =
    let lies = placed commits index (filter_bytes body) n are.places (omega arith) in
    let one_more : suc n ≡ n + 1 = omega arith in
    ap concat (ap (λ (m : ℕ). map (filter_of index body) (range_with_len 0 m)) one_more
    ∙ map-range_with_len_more (filter_of index body) 0 n n (omega arith))
    ∙ concat-append (map (filter_of index body) (range_with_len 0 n)) (filter_of index body n ∷ [])
    ∙ ap (λ (xs : List ℕ). xs ++ (filter_of index body n ++ [])) (joined index body commits n are (omega arith))
    ∙ ap (λ (xs : List ℕ). slice_range body 12 (12 + start_of index n) ++ xs) (append-nil (filter_of index body n))
    ∙ joined_to body 12 (12 + start_of index n) (12 + end_of index n) (omega arith) (omega (arith, lies.0))

pub all_of_the_data : (commits : ℕ) (index body : List ℕ) → filters_refusal commits index body ≡ None
    → concat (filters_of index body) ≡ drop 12 body
unfolding filters_of
all_of_the_data commits index body none =
    let are = are_filters commits index body none in
    let all : 12 + start_of index commits ≡ length body =
    omega (arith, are.all, are.body_size, ends_within commits index (filter_bytes body) are.places) in
    let many : length index / 4 ≡ commits = omega (arith, are.index_size) in
    ap (λ (n : ℕ). concat (map (filter_of index body) (range_with_len 0 n))) many
    ∙ joined index body commits commits are (omega arith)
    ∙ ap (slice_range body 12) all
    ∙ take_all (length body - 12) (drop 12 body) (omega (arith, length-drop 12 body))

-- the index of chunks that are not refused has a word for each commit
quotient : (commits : ℕ) (index : List ℕ) → length index ≡ 4 * commits → length index / 4 ≡ commits
quotient commits index size = omega arith

pub by_index : (commits : ℕ) (index body : List ℕ) → filters_refusal commits index body ≡ None
    → filters_refusal (length index / 4) index body ≡ None
by_index commits index body none =
    ap (λ (n : ℕ). filters_refusal n index body) (quotient commits index (are_filters commits index body none).index_size) ∙ none

pub length_by_size : (commits : ℕ) (index body : List ℕ) → length index ≡ 4 * commits → length (filters_of index body) ≡ commits
length_by_size commits index body size = length-filters_of index body ∙ quotient commits index size
