-- The changed-path filters of a graph that one file can have, and what a layer has to have so that it has them ("Bloom Filter
-- Index", "Bloom Filter Data").
use Rattle.std.specs.Prelude.{◌≡◌, ◌≢◌, ◌<◌, ◌^◌, ◌-◌, ℕ, List, Option, Some, None, All, length, slice_get}
use Rattle.std.specs.List.{sum_by}
use Rattle.graph_chunks.specs.GraphFilters.{graph_filters, graph_filters_refusal, filter_in}
use Rattle.graph_format.specs.OptionalChunks.{index_in, data_in}
use Rattle.graph_format.specs.Layer.{Layer}
use Rattle.gix_commitgraph.specs.Graph.{graph_ids, total}
use Rattle.graph_encoder.specs.StoredNumbers.{stored_filter_numbers}
use Rattle.graph_writer.specs.NewFilters.{filter_numbers, filter_count, new_filter}
use Rattle.graph_writer.specs.declared.filters.NewFilters.{NewFilters}

-- All layers of a graph have filters, nothing refuses these, so that their settings are the same, and one file has room for
-- them: where one ends stands in four bytes.
pub record CanCarryFilters (layers : List Layer) : Type 0 where
  pub commits : 0 < total layers
  pub each : All (λ layer. stored_filter_numbers layer ≢ None) layers
  pub right : graph_filters_refusal layers ≡ None
  pub room : sum_by length (graph_filters layers) < 2 ^ 32

-- These are the filters of a graph's commits, with the numbers of its highest layer, which are Git's choice too.
pub record HoldFilters (layers : List Layer) (all : List (List ℕ)) (filters : NewFilters) : Type 0 where
  pub as_many : filter_count filters ≡ total layers
  pub each : (p : ℕ) (filter : List ℕ) → slice_get all p ≡ Some filter → new_filter filters p ≡ filter
  pub numbers : (top : Layer) → slice_get layers (length layers - 1) ≡ Some top
      → stored_filter_numbers top ≡ Some (filter_numbers filters)

-- the filters that a file with the commits of a graph is to have: those of the graph, where it can have them, and else none
abbrev pub AreCarried : List Layer → Option NewFilters → Type 0
AreCarried layers (Some filters) = CanCarryFilters layers × HoldFilters layers (graph_filters layers) filters
AreCarried layers None = ¬ CanCarryFilters layers

-- The layer has the filter of each commit of the graph, with the numbers of the graph's highest layer, where it can have them;
-- else it has none.
pub record CarriesFilters (layers : List Layer) (layer : Layer) : Type 0 where
  pub each : CanCarryFilters layers → (p : ℕ) (id filter : List ℕ) → slice_get (graph_ids layers) p ≡ Some id
      → slice_get (graph_filters layers) p ≡ Some filter
      → (q : ℕ) × (slice_get layer.ids q ≡ Some id) × (filter_in layer q ≡ filter)
  pub numbers : CanCarryFilters layers → (top : Layer) → slice_get layers (length layers - 1) ≡ Some top
      → stored_filter_numbers layer ≡ stored_filter_numbers top
  pub none : ¬ CanCarryFilters layers → (index_in layer ≡ None) × (data_in layer ≡ None)
