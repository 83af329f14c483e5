-- The corrected commit dates that a graph stores ("Generation Data", "Generation Data Overflow").
use Rattle.std.specs.Prelude.{ℕ, List, map, Option}
use Rattle.std.specs.List.{flat_map}
use Rattle.graph_format.specs.OptionalChunks.{offsets_in, overflow_in, times_in, dates_in}
use Rattle.graph_chunks.specs.StoredDates.{dates_refusal}
use Rattle.graph_chunks.specs.declared.dates.layer.LayerDatesError.{LayerDatesError}
use Rattle.graph_format.specs.Layer.{Layer, record_at}
use Rattle.gix_commitgraph.specs.Graph.{graph_commits}

-- why a layer's corrected dates cannot be read
unfoldable pub layer_dates_refusal : Layer → Option LayerDatesError
layer_dates_refusal layer = dates_refusal (offsets_in layer) (overflow_in layer) (times_in layer)

-- the committer's times of a graph's commits, in their order
unfoldable pub times_of : List Layer → List ℕ
times_of layers = map (λ commit. (record_at commit.0 commit.1).time) (graph_commits layers)

-- the corrected dates of a graph: those of its layers, one layer after another
unfoldable pub dates_of : List Layer → List ℕ
dates_of layers = flat_map dates_in layers
