-- Why the changed-path filters of a layer are refused ("Bloom Filter Index", "Bloom Filter Data").
use Rattle.std.specs.Prelude.{ℕ, List, length, Option, Some, None}
use Rattle.changed_paths.specs.Filters.{filters_refusal}
use Rattle.changed_paths.specs.declared.filters.LayerFiltersError.{LayerFiltersError}
use Rattle.graph_format.specs.OptionalChunks.{index_in, data_in}
use Rattle.graph_format.specs.Layer.{Layer}

-- why two chunks are refused in a layer with so many commits, where both are there
abbrev pub both_refused : ℕ → Option (List ℕ) → Option (List ℕ) → Option LayerFiltersError
both_refused commits (Some index) (Some body) = filters_refusal commits index body
both_refused commits index body = None

-- why a layer's filters are refused
unfoldable pub layer_filters_refusal : Layer → Option LayerFiltersError
layer_filters_refusal layer = both_refused (length layer.ids) (index_in layer) (data_in layer)
