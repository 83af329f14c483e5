-- Nothing refuses the filters of a graph with a new layer on top.
use Rattle.std.proofs.Common.{◌≡◌, ℕ, zero, suc, ◌+◌, ◌<◌, ◌≤◌, Bool, false, List, [], ◌∷◌, ◌++◌, length, slice_get}
use Rattle.std.proofs.Common.{Option, Some, None, not, option_map, refl, sym, ap, ◌∙◌, ⊎_elim, arith}
use Rattle.std.specs.Prelude.{◌==◌, ◌||◌}
use Rattle.std.specs.Option.{option_and_then, option_or}
use Rattle.std.proofs.lemmas.Bool.{cases_lt, eq-eqb}
use Rattle.std.proofs.lemmas.List.{length_push}
use Rattle.std.proofs.lemmas.Option.{none-some, same_Some}
use Rattle.gix_chunk_core.specs.FirstFault.{◌when◌, ◌otherwise◌}
use Rattle.gix_chunk_core.proofs.FirstFaultLemmas.{first_below-none_at, first_below-none_from, otherwise-none}
use Rattle.gix_commitgraph.specs.Graph.{start}
use Rattle.gix_commitgraph.proofs.layers.LayerListLemmas.{get-front}
use Rattle.gix_commitgraph.proofs.lookup.ElementLemmas.{some-place}
use Rattle.changed_paths.specs.declared.filters.HashVersion.{HashVersion}
use Rattle.changed_paths.specs.declared.filters.HashVersion.TheVariants.{One, Two}
use Rattle.changed_paths.specs.declared.filters.LayerFiltersError.{LayerFiltersError}
use Rattle.graph_chunks.specs.GraphFilters.{settings_with, settings_in, settings_of, filters_in_graph, same_version, differ}
use Rattle.graph_chunks.specs.GraphFilters.{fault_in, filters_fault, graph_filters_refusal}
use Rattle.graph_chunks.specs.StoredFilters.{both_refused, layer_filters_refusal}
use Rattle.graph_chunks.specs.declared.filters.FilterSettings.{FilterSettings}
use Rattle.graph_chunks.specs.declared.filters.FiltersError.TheVariants as error
use Rattle.graph_format.specs.Layer.{Layer}
use Rattle.graph_format.specs.OptionalChunks.{index_in, data_in}
use Rattle.graph_writer.specs.NewFilters.{HasFiltersOf}
use Rattle.graph_writer.specs.RightThroughout.{CanBeAskedOn}
use Rattle.graph_writer.specs.declared.commit.NewCommit.{NewCommit}
use Rattle.graph_writer.specs.declared.filters.NewFilters.{NewFilters}
use Rattle.graph_writer.proofs.positions.KnownSteps.{get-back}
use Rattle.graph_writer.proofs.layers.TopSteps.{start-front}

differ-none : (lowest : Option FilterSettings) → differ lowest None ≡ false
differ-none None = refl
differ-none (Some settings) = refl

same-version : (version : HashVersion) → not (same_version version version) ≡ false
same-version One = refl
same-version Two = refl

differ-itself : (own : Option FilterSettings) → differ own own ≡ false
differ-itself None = refl
differ-itself (Some settings) =
    ap (λ (b : Bool). b || not (settings.hashes == settings.hashes)) (same-version settings.version)
    ∙ ap not (eq-eqb settings.hashes settings.hashes refl)

-- a layer is not refused where its own filters are not, and their settings are those of the lowest
not-refused : (i before : ℕ) (lowest : Option FilterSettings) (layer : Layer) → layer_filters_refusal layer ≡ None
    → differ lowest (settings_in layer) ≡ false → fault_in i before lowest layer ≡ None
not-refused i before lowest layer none same =
    ap (λ (o : Option LayerFiltersError).
    option_map (filters_in_graph i before) o otherwise error.Settings i when differ lowest (settings_in layer)) none
    ∙ ap (λ (b : Bool). error.Settings i when b) same

own-refusal : (i before : ℕ) (o : Option LayerFiltersError) → option_map (filters_in_graph i before) o ≡ None → o ≡ None
own-refusal i before None none = refl
own-refusal i before (Some fault) none = absurd (none-some _ (sym none))

-- no settings, and none of any layer
no-settings : (layer : Layer) → index_in layer ≡ None → settings_in layer ≡ None
unfolding settings_in
no-settings layer missing = ap (λ (o : Option (List ℕ)). settings_with o (data_in layer)) missing

no-refusal : (layer : Layer) → index_in layer ≡ None → layer_filters_refusal layer ≡ None
unfolding layer_filters_refusal
no-refusal layer missing = ap (λ (o : Option (List ℕ)). both_refused (length layer.ids) o (data_in layer)) missing

or-none : (a b : Option FilterSettings) → option_or a b ≡ None → (a ≡ None) × (b ≡ None)
or-none None b none = (refl, none)
or-none (Some a) b none = absurd (none-some a (sym none))

none-in : (layers : List Layer) → settings_of layers ≡ None → (i : ℕ) (layer : Layer) → slice_get layers i ≡ Some layer
    → settings_in layer ≡ None
unfolding settings_of
none-in [] none i layer here = absurd (none-some layer here)
none-in (l ∷ layers) none zero layer here =
    let same : l ≡ layer = same_Some l layer here in
    ap settings_in (sym same) ∙ (or-none (settings_in l) (settings_of layers) none).0
none-in (l ∷ layers) none (suc i) layer here =
    none-in layers (or-none (settings_in l) (settings_of layers) none).1 i layer here

-- the settings with a layer on top
settings-below : (layers : List Layer) (layer : Layer) → settings_in layer ≡ None
    → settings_of (layers ++ layer ∷ []) ≡ settings_of layers
unfolding settings_of
settings-below [] layer none = ap (λ (o : Option FilterSettings). option_or o None) none
settings-below (l ∷ layers) layer none = ap (option_or (settings_in l)) (settings-below layers layer none)

settings-top : (layers : List Layer) (layer : Layer) → settings_of layers ≡ None
    → settings_of (layers ++ layer ∷ []) ≡ settings_in layer
unfolding settings_of
settings-top [] layer none = or-itself (settings_in layer)
  where
    or-itself : (o : Option FilterSettings) → option_or o None ≡ o
    or-itself None = refl
    or-itself (Some settings) = refl
settings-top (l ∷ layers) layer none =
    let both = or-none (settings_in l) (settings_of layers) none in
    ap (λ (o : Option FilterSettings). option_or o (settings_of (layers ++ layer ∷ []))) both.0
    ∙ settings-top layers layer both.1

module _ (layers : List Layer) (layer : Layer) (none : graph_filters_refusal layers ≡ None) where
  abbrev all : List Layer
  all = layers ++ layer ∷ []

  fault-below : (i : ℕ) (l : Layer) → slice_get layers i ≡ Some l → i < length layers
      → fault_in i (start layers i) (settings_of layers) l ≡ None
  unfolding graph_filters_refusal
  fault-below i l here lt =
      sym (ap (option_and_then (fault_in i (start layers i) (settings_of layers))) here)
      ∙ first_below-none_at (filters_fault layers) i (length layers) none lt

  -- nothing is refused if no layer below is, nor the one on top
  by-layers : ((i : ℕ) (l : Layer) → slice_get layers i ≡ Some l → i < length layers
      → fault_in i (start layers i) (settings_of all) l ≡ None)
      → ((i before : ℕ) → fault_in i before (settings_of all) layer ≡ None) → graph_filters_refusal all ≡ None
  unfolding graph_filters_refusal
  by-layers below top =
      first_below-none_from (filters_fault all) (length all)
      (λ i lt.
      ⊎_elim
      (λ (before : i < length layers).
      let l = some-place layers i before in
      ap (λ (n : ℕ). option_and_then (fault_in i n (settings_of all)) (slice_get all i))
      (start-front layers layer i (omega (arith, before)))
      ∙ ap (option_and_then (fault_in i (start layers i) (settings_of all))) (get-front layers (layer ∷ []) i before ∙ l.1)
      ∙ below i l.0 l.1 before)
      (λ (not_before : length layers ≤ i).
      let at : slice_get all i ≡ Some layer =
      ap (slice_get all)
      (let same : i ≡ length layers + 0 = omega (arith, lt, not_before, length_push layers layer) in same)
      ∙ get-back layers (layer ∷ []) 0 in
      ap (option_and_then (fault_in i (start all i) (settings_of all))) at ∙ top i (start all i))
      (cases_lt i (length layers)))

  without-filters : index_in layer ≡ None → graph_filters_refusal all ≡ None
  without-filters missing =
      let same : settings_of all ≡ settings_of layers = settings-below layers layer (no-settings layer missing) in
      by-layers
      (λ i l here lt.
      ap (λ (lowest : Option FilterSettings). fault_in i (start layers i) lowest l) same ∙ fault-below i l here lt)
      (λ i before.
      not-refused i before (settings_of all) layer (no-refusal layer missing)
      (ap (differ (settings_of all)) (no-settings layer missing) ∙ differ-none (settings_of all)))

  first-filters : settings_of layers ≡ None → layer_filters_refusal layer ≡ None → graph_filters_refusal all ≡ None
  first-filters alone right =
      by-layers
      (λ i l here lt.
      not-refused i (start layers i) (settings_of all) l
      (own-refusal i (start layers i) (layer_filters_refusal l) (otherwise-none _ _ (fault-below i l here lt)).0)
      (ap (differ (settings_of all)) (none-in layers alone i l here) ∙ differ-none (settings_of all)))
      (λ i before.
      not-refused i before (settings_of all) layer right
      (ap (λ (lowest : Option FilterSettings). differ lowest (settings_in layer)) (settings-top layers layer alone)
      ∙ differ-itself (settings_in layer)))

  pub filters-right : (commits : List NewCommit) (filters : Option NewFilters) → HasFiltersOf commits filters layer
      → CanBeAskedOn layers filters → graph_filters_refusal all ≡ None
  filters-right commits None has asked = without-filters has.0
  filters-right commits (Some filters) has asked = first-filters asked.1 (has.accepted asked.0)
