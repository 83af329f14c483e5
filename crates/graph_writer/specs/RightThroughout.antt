-- A graph of which a whole check refuses nothing.
use Rattle.std.specs.Prelude.{◌≡◌, ⊤, List, Option, None, Some, All}
use Rattle.gix_commitgraph.specs.Sound.{Sound}
use Rattle.graph_chunks.specs.GraphDates.{graph_dates_refusal}
use Rattle.graph_chunks.specs.GraphFilters.{settings_of, graph_filters_refusal}
use Rattle.graph_format.specs.Layer.{Layer}
use Rattle.graph_format.specs.OptionalChunks.{HasDates}
use Rattle.graph_writer.specs.NewFilters.{filter_numbers, AreRightNumbers}
use Rattle.graph_writer.specs.declared.filters.NewFilters.{NewFilters}

-- The graph is right, and nothing refuses its corrected dates, where all layers have them, or its filters.
pub record IsRightThroughout (layers : List Layer) : Type 0 where
  pub sound : Sound layers
  pub dates : All HasDates layers → graph_dates_refusal layers ≡ None
  pub filters : graph_filters_refusal layers ≡ None

-- Filters that are handed in can be asked by their numbers, and no layer below has some, which might have others.
abbrev pub CanBeAskedOn : List Layer → Option NewFilters → Type 0
CanBeAskedOn layers None = ⊤
CanBeAskedOn layers (Some filters) = AreRightNumbers (filter_numbers filters) × (settings_of layers ≡ None)
