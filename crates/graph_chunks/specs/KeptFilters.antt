-- What is kept of the filters of a graph, a part for each layer; for private contracts alone.
use Rattle.std.specs.Prelude.{◌≡◌, ◌<◌, ⊤, ℕ, List, [], length, slice_get, Option, Some, None}
use Rattle.changed_paths.specs.Filters.{Filters}
use Rattle.changed_paths.specs.declared.filters.LayerFiltersError.{LayerFiltersError}
use Rattle.changed_paths.specs.declared.filters.LayerFiltersError.TheVariants.{Falls, PastEnd}
use Rattle.graph_format.specs.Layer.{Layer}
use Rattle.gix_commitgraph.specs.Graph.{start}
use Rattle.graph_chunks.specs.GraphFilters.{FiltersOfGraph, filter_in}
use Rattle.graph_chunks.specs.declared.filters.FilterSettings.{FilterSettings}
use Rattle.graph_chunks.specs.declared.filters.LayerFilters.{LayerFilters}

-- the commit that the error names, if it names one, is one of so many
abbrev pub NamesFilterOf : ℕ → LayerFiltersError → Type 0
NamesFilterOf commits (Falls pos) = pos.0 < commits
NamesFilterOf commits (PastEnd pos) = pos.0 < commits
NamesFilterOf commits _ = ⊤

-- the settings of filters
abbrev pub settings_by : Filters → FilterSettings
settings_by filters = record { version = filters.version; hashes = filters.hashes }

-- these are the filters of a layer, with the settings of the graph
abbrev pub AreFiltersOf : Option FilterSettings → Layer → Option Filters → Type 0
AreFiltersOf settings layer None = (p : ℕ) → filter_in layer p ≡ []
AreFiltersOf settings layer (Some filters) =
    (settings ≡ Some (settings_by filters)) × (length filters.filters ≡ length layer.ids)
    × ((p : ℕ) → p < length layer.ids → slice_get filters.filters p ≡ Some (filter_in layer p))

-- This is kept of a layer, before which so many commits stand.
pub record IsKept (settings : Option FilterSettings) (before : ℕ) (layer : Layer) (kept : LayerFilters) : Type 0 where
  pub counted : kept.before ≡ before
  pub filters : AreFiltersOf settings layer kept.filters

-- A part is kept of each of the first n layers.
pub record AreKept (layers : List Layer) (settings : Option FilterSettings) (n : ℕ) (kept : List LayerFilters) : Type 0 where
  pub many : length kept ≡ n
  pub each : (i : ℕ) (layer : Layer) → i < n → slice_get layers i ≡ Some layer
      → (part : LayerFilters) × (slice_get kept i ≡ Some part) × IsKept settings (start layers i) layer part

-- commit p of the graph is the one at a place of a layer with these filters
abbrev pub IsFilterAt : FiltersOfGraph → ℕ → Option Filters → ℕ → Type 0
IsFilterAt all p None place = slice_get all.filters p ≡ Some []
IsFilterAt all p (Some filters) place =
    (place < length filters.filters) × (slice_get all.filters p ≡ slice_get filters.filters place)
    × (all.settings ≡ Some (settings_by filters))
