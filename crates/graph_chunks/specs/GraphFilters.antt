-- The changed-path filters of a graph ("Bloom Filter Index", "Bloom Filter Data"), and the first condition that refuses them.
use Rattle.std.specs.Prelude.{◌≡◌, ◌==◌, ◌||◌, ◌⊎◌, ℕ, ◌+◌, not, Bool, true, false, List, [], ◌∷◌, length, map, slice_get}
use Rattle.std.specs.Prelude.{Option, Some, None, option_map, count_by}
use Rattle.std.specs.Option.{option_and_then, option_or}
use Rattle.gix_chunk_core.specs.FirstFault.{◌when◌, ◌otherwise◌, first_below}
use Rattle.changed_paths.specs.Filter.{IsPossible, IsAbsent}
use Rattle.changed_paths.specs.Filters.{version_of, filter_of}
use Rattle.changed_paths.specs.declared.filters.HashVersion.{HashVersion}
use Rattle.changed_paths.specs.declared.filters.HashVersion.TheVariants.{One, Two}
use Rattle.changed_paths.specs.declared.filters.LayerFiltersError.{LayerFiltersError}
use Rattle.changed_paths.specs.declared.filters.LayerFiltersError.TheVariants as layer_error
use Rattle.graph_format.specs.Layer.{Layer}
use Rattle.graph_format.specs.Parents.{position_of}
use Rattle.graph_format.specs.Integers.{word_in}
use Rattle.gix_commitgraph.specs.Graph.{graph_commits, start}
use Rattle.graph_format.specs.OptionalChunks.{index_in, data_in}
use Rattle.graph_chunks.specs.StoredFilters.{layer_filters_refusal}
use Rattle.graph_chunks.specs.declared.filters.FilterSettings.{FilterSettings}
use Rattle.graph_chunks.specs.declared.filters.FiltersError.{FiltersError}
use Rattle.graph_chunks.specs.declared.filters.FiltersError.TheVariants as error

-- the settings that the data of filters names, where both chunks are there
abbrev pub settings_with : Option (List ℕ) → Option (List ℕ) → Option FilterSettings
settings_with (Some index) (Some body) =
    option_map (λ version. record { version = version; hashes = word_in body 1 }) (version_of (word_in body 0))
settings_with index body = None

-- the settings of a layer's filters, none where it has no filters
unfoldable pub settings_in : Layer → Option FilterSettings
settings_in layer = settings_with (index_in layer) (data_in layer)

-- those of the lowest layer with filters, by which all filters of the graph are asked
unfoldable pub settings_of : List Layer → Option FilterSettings
settings_of [] = None
settings_of (layer ∷ layers) = option_or (settings_in layer) (settings_of layers)

-- the filter of commit p of a layer, of no bytes where the layer has no filters
abbrev pub filter_with : Option (List ℕ) → Option (List ℕ) → ℕ → List ℕ
filter_with (Some index) (Some body) p = filter_of index body p
filter_with index body p = []

unfoldable pub filter_in : Layer → ℕ → List ℕ
filter_in layer p = filter_with (index_in layer) (data_in layer) p

-- the filters of a graph's commits, in their order
unfoldable pub graph_filters : List Layer → List (List ℕ)
graph_filters layers = map (λ commit. filter_in commit.0 commit.1) (graph_commits layers)

-- a filter of no bytes was not computed
abbrev pub is_computed : List ℕ → Bool
is_computed filter = not (length filter == 0)

-- how many commits of a graph have a filter that was computed
abbrev pub computed_in : List Layer → ℕ
computed_in layers = count_by is_computed (graph_filters layers)

-- the error of layer i, before which so many commits stand, as one of the graph
abbrev pub filters_in_graph : ℕ → ℕ → LayerFiltersError → FiltersError
filters_in_graph i before layer_error.IndexSize = error.IndexSize i
filters_in_graph i before layer_error.DataSize = error.DataSize i
filters_in_graph i before (layer_error.Version version) = error.Version i version
filters_in_graph i before (layer_error.Hashes hashes) = error.Hashes i hashes
filters_in_graph i before layer_error.NoBits = error.NoBits i
filters_in_graph i before (layer_error.Falls pos) = error.Falls (position_of (before + pos.0))
filters_in_graph i before (layer_error.PastEnd pos) = error.PastEnd (position_of (before + pos.0))
filters_in_graph i before layer_error.LeftOver = error.LeftOver i

abbrev pub same_version : HashVersion → HashVersion → Bool
same_version One One = true
same_version One Two = false
same_version Two One = false
same_version Two Two = true

-- the version or the number of hashes is another one
abbrev pub differ : Option FilterSettings → Option FilterSettings → Bool
differ (Some lowest) (Some own) = not (same_version lowest.version own.version) || not (lowest.hashes == own.hashes)
differ lowest own = false

-- why the filters of layer i are refused, where the lowest filters have these settings: for what its own chunks say, and then for
-- settings that differ
abbrev pub fault_in : ℕ → ℕ → Option FilterSettings → Layer → Option FiltersError
fault_in i before lowest layer =
    option_map (filters_in_graph i before) (layer_filters_refusal layer)
    otherwise error.Settings i when differ lowest (settings_in layer)

abbrev pub filters_fault : List Layer → ℕ → Option FiltersError
filters_fault layers i = option_and_then (fault_in i (start layers i) (settings_of layers)) (slice_get layers i)

-- what refuses the filters of the lowest layer whose filters are refused
unfoldable pub graph_filters_refusal : List Layer → Option FiltersError
graph_filters_refusal layers = first_below (filters_fault layers) (length layers)

-- the errors that may be answered for filters: what refuses them, and out of memory where nothing does
abbrev pub MayRefuseGraphFilters : List Layer → FiltersError → Type 0
MayRefuseGraphFilters layers fault =
    (graph_filters_refusal layers ≡ Some fault) ⊎ ((fault ≡ error.OutOfMemory) × (graph_filters_refusal layers ≡ None))

-- the filters of a graph's commits, in their order, with the settings to ask them by, which are not there where no layer has
-- filters
pub record FiltersOfGraph : Type 0 where
  pub settings : Option FilterSettings
  pub filters : List (List ℕ)

-- a path is possible in a filter, and absent from it, by settings that are there
abbrev pub IsPossibleBy : Option FilterSettings → List ℕ → List ℕ → Type 0
IsPossibleBy (Some settings) filter path = IsPossible settings.version settings.hashes filter path
IsPossibleBy None filter path = ⊥

abbrev pub IsAbsentBy : Option FilterSettings → List ℕ → List ℕ → Type 0
IsAbsentBy (Some settings) filter path = IsAbsent settings.version settings.hashes filter path
IsAbsentBy None filter path = ⊥
