-- the filters of a graph, read one layer after another
use Rattle.std.proofs.Common.{◌≡◌, ◌≢◌, ◌⊎◌, ℕ, zero, suc, ◌+◌, ◌-◌, ◌*◌, ◌<◌, ◌≤◌, Bool, true, false, not, ◌||◌, ◌==◌}
use Rattle.std.proofs.Common.{List, [], ◌∷◌, ◌++◌, length, take, Option, Some, None, IfSome, IfNone, option_map, get_or}
use Rattle.std.proofs.Common.{slice_get}
use Rattle.std.proofs.Common.{refl, sym, ap, subst, ◌∙◌, arith, ⊎_elim, nat_lt, is_none, count_by}
use Rattle.std.specs.Bool.{then_some}
use Rattle.std.specs.Option.{option_and_then, option_or}
use Rattle.std.proofs.lemmas.Bool.{cases_eq, eqb-true, ne_eqb}
use Rattle.std.proofs.lemmas.List.{length-map, take_more, take_all}
use Rattle.std.proofs.lemmas.List.Sums.{count_by_more_yes, count_by_more_no}
use Rattle.std.proofs.lemmas.Option.{slice_get-map, slice_get_read, slice_get_within, same_Some, get_or_from_slice_get}
use Rattle.gix_chunk_core.specs.FirstFault.{◌when◌, ◌otherwise◌, first_below}
use Rattle.gix_chunk_core.proofs.FirstFaultLemmas.{first_below-found}
use Rattle.changed_paths.specs.Filters.{Filters, version_of, start_of, end_of, filters_of, filter_bytes}
use Rattle.changed_paths.specs.Filters.{filter_position, place_fault, places_refusal, filters_refusal}
use Rattle.changed_paths.specs.declared.filters.HashVersion.{HashVersion}
use Rattle.changed_paths.specs.declared.filters.HashVersion.TheVariants.{One, Two}
use Rattle.changed_paths.specs.declared.filters.LayerFiltersError.{LayerFiltersError}
use Rattle.changed_paths.specs.declared.filters.LayerFiltersError.TheVariants.{IndexSize, DataSize, Version, Hashes, NoBits}
use Rattle.changed_paths.specs.declared.filters.LayerFiltersError.TheVariants.{Falls, PastEnd, LeftOver}
use Rattle.changed_paths.proofs.FiltersLemmas.{filters_of-at, length-filters_of}
use Rattle.graph_format.specs.Layer.{Layer}
use Rattle.graph_format.specs.Integers.{word_in}
use Rattle.gix_commitgraph.specs.Graph.{graph_commits, start, stop, total}
use Rattle.gix_commitgraph.proofs.layers.LayerListLemmas.{get-front, graph_commits-at, start-more}
use Rattle.gix_commitgraph.proofs.layers.PositionLemmas.{length-graph_commits}
use Rattle.graph_format.specs.OptionalChunks.{index_in, data_in}
use Rattle.graph_chunks.specs.StoredFilters.{both_refused, layer_filters_refusal}
use Rattle.graph_chunks.specs.GraphFilters.{FiltersOfGraph, is_computed, settings_with, settings_in, settings_of, filter_with}
use Rattle.graph_chunks.specs.GraphFilters.{filter_in}
use Rattle.graph_chunks.specs.GraphFilters.{graph_filters, same_version, differ, fault_in, filters_fault, filters_in_graph}
use Rattle.graph_chunks.specs.GraphFilters.{graph_filters_refusal}
use Rattle.graph_chunks.specs.KeptFilters.{NamesFilterOf, settings_by, AreFiltersOf, IsKept, AreKept, IsFilterAt}
use Rattle.graph_chunks.specs.declared.filters.FilterSettings.{FilterSettings}
use Rattle.graph_chunks.specs.declared.filters.FiltersError.{FiltersError}
use Rattle.graph_chunks.specs.declared.filters.FiltersError.TheVariants.{Settings}
use Rattle.graph_chunks.specs.declared.filters.LayerFilters.{LayerFilters}

-- an error names a commit of the layer

names-or : (n : ℕ) (a b : Option LayerFiltersError) → IfSome a (NamesFilterOf n) → IfSome b (NamesFilterOf n)
    → IfSome (option_or a b) (NamesFilterOf n)
names-or n None b one two = two
names-or n (Some error) b one two = one

names-when : (n : ℕ) (b : Bool) (error : LayerFiltersError) → NamesFilterOf n error → IfSome (then_some b error) (NamesFilterOf n)
names-when n true error names = names
names-when n false error names = tt

names-below : (n : ℕ) (f : ℕ → Option LayerFiltersError) (m : ℕ) → ((i : ℕ) → i < m → IfSome (f i) (NamesFilterOf n))
    → IfSome (first_below f m) (NamesFilterOf n)
unfolding first_below
names-below n f zero each = tt
names-below n f (suc m) each =
    names-or n (first_below f m) (f m) (names-below n f m (λ i lt. each i (omega (arith, lt)))) (each m (omega arith))

names-place : (index : List ℕ) (room n p : ℕ) → p < n → IfSome (place_fault index room p) (NamesFilterOf n)
names-place index room n p lt =
    names-or n (then_some (nat_lt (end_of index p) (start_of index p)) (Falls (filter_position p)))
    (then_some (nat_lt room (end_of index p)) (PastEnd (filter_position p)))
    (names-when n (nat_lt (end_of index p) (start_of index p)) (Falls (filter_position p)) lt)
    (names-when n (nat_lt room (end_of index p)) (PastEnd (filter_position p)) lt)

-- of seven faults each but the sixth names no commit
names-first : (n : ℕ) (errors : ℕ → LayerFiltersError) (a b c d e g : Bool) (places : Option LayerFiltersError)
    → ((i : ℕ) → NamesFilterOf n (errors i)) → IfSome places (NamesFilterOf n)
    → IfSome (errors 0 when a otherwise errors 1 when b otherwise errors 2 when c otherwise errors 3 when d otherwise errors 4
    when e otherwise places otherwise errors 5 when g) (NamesFilterOf n)
names-first n errors true b c d e g places each found = each 0
names-first n errors false true c d e g places each found = each 1
names-first n errors false false true d e g places each found = each 2
names-first n errors false false false true e g places each found = each 3
names-first n errors false false false false true g places each found = each 4
names-first n errors false false false false false g (Some error) each found = found
names-first n errors false false false false false true None each found = each 5
names-first n errors false false false false false false None each found = tt

names-refusal : (n : ℕ) (index body : List ℕ) → IfSome (filters_refusal n index body) (NamesFilterOf n)
unfolding filters_refusal places_refusal
names-refusal n index body =
    names-first n errors (not (length index == 4 * n)) (nat_lt (length body) 12) (is_none (version_of (word_in body 0)))
    (word_in body 1 == 0 || nat_lt 65535 (word_in body 1)) (word_in body 2 == 0)
    (nat_lt (start_of index n) (filter_bytes body)) (first_below (place_fault index (filter_bytes body)) n) none
    (names-below n (place_fault index (filter_bytes body)) n (names-place index (filter_bytes body) n))
  where
    errors : ℕ → LayerFiltersError
    errors zero = IndexSize
    errors (suc zero) = DataSize
    errors (suc (suc zero)) = Version (word_in body 0)
    errors (suc (suc (suc zero))) = Hashes (word_in body 1)
    errors (suc (suc (suc (suc zero)))) = NoBits
    errors (suc (suc (suc (suc (suc i))))) = LeftOver

    none : (i : ℕ) → NamesFilterOf n (errors i)
    none zero = tt
    none (suc zero) = tt
    none (suc (suc zero)) = tt
    none (suc (suc (suc zero))) = tt
    none (suc (suc (suc (suc zero)))) = tt
    none (suc (suc (suc (suc (suc i))))) = tt

names-both : (n : ℕ) (index body : Option (List ℕ)) (error : LayerFiltersError) → both_refused n index body ≡ Some error
    → NamesFilterOf n error
names-both n (Some index) (Some body) error is =
    subst (λ (o : Option LayerFiltersError). IfSome o (NamesFilterOf n)) is (names-refusal n index body)
names-both n (Some index) None error is = absurd (cc)
names-both n None body error is = absurd (cc)

pub names-layer : (layer : Layer) (error : LayerFiltersError) → layer_filters_refusal layer ≡ Some error
    → NamesFilterOf (length layer.ids) error
unfolding layer_filters_refusal
names-layer layer error is = names-both (length layer.ids) (index_in layer) (data_in layer) error is

-- what the two chunks of a layer give

settled : (index body : Option (List ℕ)) (filters : Filters) → index ≢ None → body ≢ None
    → ((b : List ℕ) → body ≡ Some b → version_of (word_in b 0) ≡ Some filters.version)
    → ((b : List ℕ) → body ≡ Some b → filters.hashes ≡ word_in b 1) → settings_with index body ≡ Some (settings_by filters)
settled None body filters one two version hashes = absurd (one refl)
settled (Some index) None filters one two version hashes = absurd (two refl)
settled (Some index) (Some body) filters one two version hashes =
    rw (version body refl, hashes body refl) refl

unsettled : (index body : Option (List ℕ)) → (index ≡ None) ⊎ (body ≡ None) → settings_with index body ≡ None
unsettled None body none = refl
unsettled (Some index) None none = refl
unsettled (Some index) (Some body) none =
    ⊎_elim (λ (one : Some index ≡ None). absurd (cc)) (λ (two : Some body ≡ None). absurd (cc)) none

unfiltered : (index body : Option (List ℕ)) (p : ℕ) → (index ≡ None) ⊎ (body ≡ None) → filter_with index body p ≡ []
unfiltered None body p none = refl
unfiltered (Some index) None p none = refl
unfiltered (Some index) (Some body) p none =
    ⊎_elim (λ (one : Some index ≡ None). absurd (cc)) (λ (two : Some body ≡ None). absurd (cc)) none

filtered : (index body : Option (List ℕ)) (filters : Filters) (p : ℕ) → index ≢ None → body ≢ None
    → ((i b : List ℕ) → index ≡ Some i → body ≡ Some b → filters.filters ≡ filters_of i b) → p < length filters.filters
    → slice_get filters.filters p ≡ Some (filter_with index body p)
filtered None body filters p one two all within = absurd (one refl)
filtered (Some index) None filters p one two all within = absurd (two refl)
filtered (Some index) (Some body) filters p one two all within =
    let same : filters.filters ≡ filters_of index body = all index body refl refl in
    ap (λ (fs : List (List ℕ)). slice_get fs p) same
    ∙ filters_of-at index body p (omega (arith, ap (λ (fs : List (List ℕ)). length fs) same, length-filters_of index body))

-- from what a layer's filters are to its settings and to what is kept
pub settings-some : (layer : Layer) (filters : Filters) → index_in layer ≢ None → data_in layer ≢ None
    → ((b : List ℕ) → data_in layer ≡ Some b → version_of (word_in b 0) ≡ Some filters.version)
    → ((b : List ℕ) → data_in layer ≡ Some b → filters.hashes ≡ word_in b 1) → settings_in layer ≡ Some (settings_by filters)
unfolding settings_in
settings-some layer filters one two version hashes = settled (index_in layer) (data_in layer) filters one two version hashes

pub settings-none : (layer : Layer) → (index_in layer ≡ None) ⊎ (data_in layer ≡ None) → settings_in layer ≡ None
unfolding settings_in
settings-none layer none = unsettled (index_in layer) (data_in layer) none

pub filter-none : (layer : Layer) → (index_in layer ≡ None) ⊎ (data_in layer ≡ None) → (p : ℕ) → filter_in layer p ≡ []
unfolding filter_in
filter-none layer none p = unfiltered (index_in layer) (data_in layer) p none

pub filter-some : (layer : Layer) (filters : Filters) → index_in layer ≢ None → data_in layer ≢ None
    → ((i b : List ℕ) → index_in layer ≡ Some i → data_in layer ≡ Some b → filters.filters ≡ filters_of i b)
    → length filters.filters ≡ length layer.ids → (p : ℕ) → p < length layer.ids
    → slice_get filters.filters p ≡ Some (filter_in layer p)
unfolding filter_in
filter-some layer filters one two all many p within =
    filtered (index_in layer) (data_in layer) filters p one two all (omega (arith, many, within))

-- what was found of a layer's filters

pub own-settings : (layer : Layer) (found : Option Filters)
    → IfNone found ((index_in layer ≡ None) ⊎ (data_in layer ≡ None))
    → IfSome found (λ _. (index_in layer ≢ None) × (data_in layer ≢ None))
    → IfSome found (λ f. (b : List ℕ) → data_in layer ≡ Some b → version_of (word_in b 0) ≡ Some f.version)
    → IfSome found (λ f. (b : List ℕ) → data_in layer ≡ Some b → f.hashes ≡ word_in b 1)
    → option_map settings_by found ≡ settings_in layer
own-settings layer None none some version hashes = sym (settings-none layer none)
own-settings layer (Some f) none some version hashes = sym (settings-some layer f some.0 some.1 version hashes)

same_settings : (t s : FilterSettings) → differ (Some t) (Some s) ≡ false → t ≡ s
same_settings t s alike =
    let both = or_false _ _ alike in
    let version : t.version ≡ s.version = same t.version s.version (not_true _ both.0) in
    let hashes : t.hashes ≡ s.hashes = eqb-true _ _ (not_true _ both.1) in
    ap (λ (v : HashVersion). record { version = v; hashes = t.hashes }) version
    ∙ ap (λ (n : ℕ). record { version = s.version; hashes = n }) hashes
  where
    or_false : (a b : Bool) → (a || b) ≡ false → (a ≡ false) × (b ≡ false)
    or_false false false h = (refl, refl)
    or_false false true h = absurd (cc)
    or_false true b h = absurd (cc)

    not_true : (b : Bool) → not b ≡ false → b ≡ true
    not_true true h = refl
    not_true false h = cc

    same : (a b : HashVersion) → same_version a b ≡ true → a ≡ b
    same One One h = refl
    same One Two h = cc
    same Two One h = cc
    same Two Two h = refl

by_lowest : (lowest : Option FilterSettings) (own : FilterSettings) → differ (option_or lowest (Some own)) (Some own) ≡ false
    → option_or lowest (Some own) ≡ Some own
by_lowest None own alike = refl
by_lowest (Some l) own alike = ap (λ (s : FilterSettings). Some s) (same_settings l own alike)

pub own-filters : (layer : Layer) (found : Option Filters) (lowest : Option FilterSettings)
    → IfNone found ((index_in layer ≡ None) ⊎ (data_in layer ≡ None))
    → IfSome found (λ _. (index_in layer ≢ None) × (data_in layer ≢ None))
    → IfSome found (λ f. (i b : List ℕ) → index_in layer ≡ Some i → data_in layer ≡ Some b → f.filters ≡ filters_of i b)
    → IfSome found (λ f. length f.filters ≡ length layer.ids) → option_map settings_by found ≡ settings_in layer
    → differ (option_or lowest (settings_in layer)) (settings_in layer) ≡ false
    → AreFiltersOf (option_or lowest (settings_in layer)) layer found
own-filters layer None lowest none some all many own alike = filter-none layer none
own-filters layer (Some f) lowest none some all many own alike = (
  ap (option_or lowest) (sym own)
      ∙ by_lowest lowest (settings_by f)
      (ap (λ (o : Option FilterSettings). differ (option_or lowest o) o) own ∙ alike),
  many,
  filter-some layer f some.0 some.1 all many,
)

-- the test of the settings, as it was made
pub read-test : (lowest found own or : Option FilterSettings) (differs : Bool) → found ≡ own → or ≡ option_or lowest found
    → differs ≡ differ or found → differ (option_or lowest own) own ≡ differs
read-test lowest found own or differs same made told =
    ap (λ (o : Option FilterSettings). differ (option_or lowest o) o) (sym same)
    ∙ ap (λ (o : Option FilterSettings). differ o found) (sym made)
    ∙ sym told

pub read-differ : (i before : ℕ) (lowest : Option FilterSettings) (layer : Layer) → layer_filters_refusal layer ≡ None
    → differ (option_or lowest (settings_in layer)) (settings_in layer) ≡ true
    → fault_in i before (option_or lowest (settings_in layer)) layer ≡ Some (Settings i)
read-differ i before lowest layer none differs = rw (none, differs) refl

pub read-fault : (i before : ℕ) (lowest : Option FilterSettings) (layer : Layer) → layer_filters_refusal layer ≡ None
    → differ (option_or lowest (settings_in layer)) (settings_in layer) ≡ false
    → fault_in i before (option_or lowest (settings_in layer)) layer ≡ None
read-fault i before lowest layer none differs = rw (none, differs) refl

-- the settings of the lowest layer with filters

settings_push : (layers : List Layer) (layer : Layer)
    → settings_of (layers ++ layer ∷ []) ≡ option_or (settings_of layers) (settings_in layer)
unfolding settings_of
settings_push [] layer = or_none (settings_in layer)
  where
    or_none : (o : Option FilterSettings) → option_or o None ≡ o
    or_none None = refl
    or_none (Some s) = refl
settings_push (x ∷ xs) layer =
    ap (option_or (settings_in x)) (settings_push xs layer) ∙ or_or (settings_in x) (settings_of xs) (settings_in layer)
  where
    or_or : (a b c : Option FilterSettings) → option_or a (option_or b c) ≡ option_or (option_or a b) c
    or_or None b c = refl
    or_or (Some s) b c = refl

pub settings-more : (layers : List Layer) (i : ℕ) (layer : Layer) → slice_get layers i ≡ Some layer
    → settings_of (take (i + 1) layers) ≡ option_or (settings_of (take i layers)) (settings_in layer)
settings-more layers i layer here =
    ap settings_of (take_more layers i layer (slice_get_within layers i layer here)
    ∙ ap (λ (l : Layer). take i layers ++ l ∷ []) (get_or_from_slice_get layers i layer layer here))
    ∙ settings_push (take i layers) layer

settings-found : (layers : List Layer) (n : ℕ) (s : FilterSettings) → settings_of (take n layers) ≡ Some s
    → settings_of layers ≡ Some s
unfolding settings_of
settings-found layers zero s found = absurd (cc)
settings-found [] (suc n) s found = found
settings-found (x ∷ xs) (suc n) s found = or_found (settings_in x) (settings_of (take n xs)) (settings_of xs) found
    (settings-found xs n s)
  where
    or_found : (a b c : Option FilterSettings) → option_or a b ≡ Some s → (b ≡ Some s → c ≡ Some s) → option_or a c ≡ Some s
    or_found None b c found from = from found
    or_found (Some t) b c found from = found

-- the settings that the layers so far have are those of the graph
pub lowest-found : (layers : List Layer) (i : ℕ) (layer : Layer) (lowest : Option FilterSettings) (s : FilterSettings)
    → slice_get layers i ≡ Some layer → lowest ≡ settings_of (take i layers) → option_or lowest (settings_in layer) ≡ Some s
    → settings_of layers ≡ Some s
lowest-found layers i layer lowest s here so_far found =
    settings-found layers (i + 1) s
    (settings-more layers i layer here ∙ ap (λ (o : Option FilterSettings). option_or o (settings_in layer)) (sym so_far) ∙ found)

differ-same : (all lowest own : Option FilterSettings) → ((s : FilterSettings) → option_or lowest own ≡ Some s → all ≡ Some s)
    → differ all own ≡ differ (option_or lowest own) own
differ-same None None None from = refl
differ-same None (Some l) None from = refl
differ-same (Some a) None None from = refl
differ-same (Some a) (Some l) None from = refl
differ-same all None (Some o) from = ap (λ (x : Option FilterSettings). differ x (Some o)) (from o refl)
differ-same all (Some l) (Some o) from = ap (λ (x : Option FilterSettings). differ x (Some o)) (from l refl)

pub fault-at : (layers : List Layer) (i : ℕ) (layer : Layer) (before : ℕ) (lowest : Option FilterSettings)
    → slice_get layers i ≡ Some layer → before ≡ start layers i → lowest ≡ settings_of (take i layers)
    → filters_fault layers i ≡ fault_in i before (option_or lowest (settings_in layer)) layer
fault-at layers i layer before lowest here counted so_far =
    ap (option_and_then (fault_in i (start layers i) (settings_of layers))) here
    ∙ ap (λ (n : ℕ). fault_in i n (settings_of layers) layer) (sym counted)
    ∙ ap (λ (b : Bool).
    option_or (option_map (filters_in_graph i before) (layer_filters_refusal layer)) (then_some b (Settings i)))
    (differ-same (settings_of layers) lowest (settings_in layer) (λ s. lowest-found layers i layer lowest s here so_far))

-- what is kept of the layers so far

filters-kept : (all lowest : Option FilterSettings) (layer : Layer) (filters : Option Filters)
    → ((s : FilterSettings) → lowest ≡ Some s → all ≡ Some s) → AreFiltersOf lowest layer filters → AreFiltersOf all layer filters
filters-kept all lowest layer None from are = are
filters-kept all lowest layer (Some filters) from are = (from (settings_by filters) are.0, are.1, are.2)

pub kept-by : (layers : List Layer) (i : ℕ) (layer : Layer) (before : ℕ) (lowest : Option FilterSettings) (part : LayerFilters)
    → slice_get layers i ≡ Some layer → before ≡ start layers i → lowest ≡ settings_of (take i layers)
    → IsKept (option_or lowest (settings_in layer)) before layer part → IsKept (settings_of layers) (start layers i) layer part
kept-by layers i layer before lowest part here counted so_far kept = record {
  counted = kept.counted ∙ counted;
  filters = filters-kept (settings_of layers) (option_or lowest (settings_in layer)) layer part.filters
      (λ s. lowest-found layers i layer lowest s here so_far) kept.filters;
}

at_end : {X : Type 0} (xs : List X) (x : X) → slice_get (xs ++ x ∷ []) (length xs) ≡ Some x
at_end [] x = refl
at_end (y ∷ ys) x = at_end ys x

pub kept-none : (layers : List Layer) (settings : Option FilterSettings) → AreKept layers settings 0 []
kept-none layers settings = record { many = refl; each = λ i layer lt. absurd (omega (arith, lt)) }

pub kept-more : (layers : List Layer) (settings : Option FilterSettings) (n : ℕ) (kept : List LayerFilters) (layer : Layer)
    (part : LayerFilters) → AreKept layers settings n kept → slice_get layers n ≡ Some layer
    → IsKept settings (start layers n) layer part → AreKept layers settings (n + 1) (kept ++ part ∷ [])
kept-more layers settings n kept layer part before here one = record {
  many = omega (arith, before.many, length-push kept part);
  each = λ i other lt at.
      ⊎_elim
      (λ (same : i ≡ n). last i other same at)
      (λ (apart : i ≡ n → ⊥).
      let found = before.each i other (omega (arith, lt, apart)) at in
      (found.0, get-front kept (part ∷ []) i (omega (arith, lt, apart, before.many)) ∙ found.1, found.2))
      (cases_eq i n);
} where
  length-push : (xs : List LayerFilters) (x : LayerFilters) → length (xs ++ x ∷ []) ≡ length xs + 1
  length-push [] x = refl
  length-push (y ∷ ys) x = omega (arith, length-push ys x)

  last : (i : ℕ) (other : Layer) → i ≡ n → slice_get layers i ≡ Some other
      → (p : LayerFilters) × (slice_get (kept ++ part ∷ []) i ≡ Some p) × IsKept settings (start layers i) other p
  last i other same at =
      let alike : layer ≡ other = same_Some layer other (sym here ∙ ap (slice_get layers) (sym same) ∙ at) in (
        part,
        ap (slice_get (kept ++ part ∷ [])) (same ∙ sym before.many) ∙ at_end kept part,
        subst (λ (l : Layer). IsKept settings (start layers i) l part) alike
            (subst (λ (m : ℕ). IsKept settings (start layers m) layer part) (sym same) one),
      )

-- where the filter of a commit is

pub length-filters : (layers : List Layer) → length (graph_filters layers) ≡ total layers
unfolding graph_filters
length-filters layers =
    length-map (graph_commits layers) (λ (c : Layer × ℕ). filter_in c.0 c.1) ∙ length-graph_commits layers

filter-at : (layers : List Layer) (i j : ℕ) (layer : Layer) → slice_get layers i ≡ Some layer → j < length layer.ids
    → slice_get (graph_filters layers) (start layers i + j) ≡ Some (filter_in layer j)
unfolding graph_filters
filter-at layers i j layer here within =
    slice_get-map (λ (c : Layer × ℕ). filter_in c.0 c.1) (graph_commits layers) (start layers i + j)
    ∙ ap (option_map (λ (c : Layer × ℕ). filter_in c.0 c.1)) (graph_commits-at layers i j layer here within)

there : {X : Type 0} (xs : List X) (i : ℕ) → i < length xs → (x : X) × (slice_get xs i ≡ Some x)
there [] i lt = absurd (omega (arith, lt))
there (x ∷ xs) zero lt = (x, refl)
there (x ∷ xs) (suc i) lt = there xs i (omega (arith, lt))

is_at_filters : (layers : List Layer) (all : FiltersOfGraph) (settings : Option FilterSettings) (i p j : ℕ) (layer : Layer)
    (filters : Option Filters) → record { settings = settings; filters = graph_filters layers } ≡ all
    → slice_get layers i ≡ Some layer → p ≡ start layers i + j → j < length layer.ids → AreFiltersOf settings layer filters
    → IsFilterAt all p filters j
is_at_filters layers all settings i p j layer None view here at within are =
    ap (λ (a : FiltersOfGraph). slice_get a.filters p) (sym view)
    ∙ ap (slice_get (graph_filters layers)) at
    ∙ filter-at layers i j layer here within
    ∙ ap (λ (f : List ℕ). Some f) (are j)
is_at_filters layers all settings i p j layer (Some filters) view here at within are = (
  omega (arith, within, are.1),
  ap (λ (a : FiltersOfGraph). slice_get a.filters p) (sym view)
      ∙ ap (slice_get (graph_filters layers)) at
      ∙ filter-at layers i j layer here within
      ∙ sym (are.2 j within),
  ap (λ (a : FiltersOfGraph). a.settings) (sym view) ∙ are.0,
)

pub record IsFound (all : FiltersOfGraph) (p : ℕ) (part : LayerFilters) : Type 0 where
  pub after : part.before ≤ p
  pub at : IsFilterAt all p part.filters (p - part.before)

pub is_found : (layers : List Layer) (all : FiltersOfGraph) (settings : Option FilterSettings) (kept : List LayerFilters)
    (i p : ℕ) (part : LayerFilters) → record { settings = settings; filters = graph_filters layers } ≡ all
    → AreKept layers settings (length layers) kept → i < length layers → start layers i ≤ p → p < stop layers i
    → part ≡ get_or kept i part → IsFound all p part
is_found layers all settings kept i p part view are within after below is =
    let layer = (there layers i within).0 in
    let here : slice_get layers i ≡ Some layer = (there layers i within).1 in
    let found = are.each i layer within here in
    let read : slice_get kept i ≡ Some part =
    slice_get_read kept (length kept) i part refl (omega (arith, within, are.many)) is in
    let same : found.0 ≡ part = same_Some found.0 part (sym found.1 ∙ read) in
    let one = subst (IsKept settings (start layers i) layer) same found.2 in
    let many = start-more layers i layer here in
    record {
      after = omega (arith, one.counted, after);
      at = is_at_filters layers all settings i p (p - part.before) layer part.filters view here
          (omega (arith, one.counted, after)) (omega (arith, one.counted, after, below, many)) one.filters;
    }

-- how many filters were computed

empty_not : (filter : List ℕ) → length filter ≡ 0 → is_computed filter ≡ false
empty_not filter none = ap (λ (n : ℕ). not (n == 0)) none

filled_is : (filter : List ℕ) → (length filter ≡ 0 → ⊥) → is_computed filter ≡ true
filled_is filter some = ap not (ne_eqb (length filter) 0 some)

pub computed-more : (filters : List (List ℕ)) (p : ℕ) (filter : List ℕ) → slice_get filters p ≡ Some filter
    → (length filter ≡ 0 → ⊥) → count_by is_computed (take (p + 1) filters) ≡ count_by is_computed (take p filters) + 1
computed-more filters p filter here some =
    count_by_more_yes is_computed filters p filter (slice_get_within filters p filter here)
    (ap is_computed (get_or_from_slice_get filters p filter filter here) ∙ filled_is filter some)

pub computed-no_more : (filters : List (List ℕ)) (p : ℕ) (filter : List ℕ) → slice_get filters p ≡ Some filter
    → length filter ≡ 0 → count_by is_computed (take (p + 1) filters) ≡ count_by is_computed (take p filters)
computed-no_more filters p filter here none =
    count_by_more_no is_computed filters p filter (slice_get_within filters p filter here)
    (ap is_computed (get_or_from_slice_get filters p filter filter here) ∙ empty_not filter none)

pub computed-all : (filters : List (List ℕ)) (n : ℕ) → length filters ≤ n
    → count_by is_computed (take n filters) ≡ count_by is_computed filters
computed-all filters n all = ap (count_by is_computed) (take_all n filters all)

-- the refusal of all layers, from that of one

pub settings-empty : None ≡ settings_of []
unfolding settings_of
settings-empty = refl

pub refused : (layers : List Layer) (i : ℕ) (error : FiltersError) → first_below (filters_fault layers) i ≡ None
    → filters_fault layers i ≡ Some error → i < length layers → graph_filters_refusal layers ≡ Some error
unfolding graph_filters_refusal
refused layers i error none found within = first_below-found (filters_fault layers) i (length layers) error none found within

pub not-refused : (layers : List Layer) (i : ℕ) → first_below (filters_fault layers) i ≡ None → length layers ≤ i
    → i ≤ length layers → graph_filters_refusal layers ≡ None
unfolding graph_filters_refusal
not-refused layers i none past within =
    let same : i ≡ length layers = omega (arith, past, within) in
    ap (first_below (filters_fault layers)) (sym same) ∙ none
