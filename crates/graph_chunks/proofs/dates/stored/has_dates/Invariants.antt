use Rattle.std.proofs.Common.{◌<◌, ℕ, get_or}
use Rattle.graph_format.specs.Layer.{Layer}
use Rattle.graph_format.specs.OptionalChunks.{HasDates}
use Rattle.graph_chunks.proofs.dates.stored.has_dates.Given as goal

abbrev pub invariant-loop-layer : goal.invariant-loop-layer
invariant-loop-layer l = (k : ℕ) (d : Layer) → k < l.layer → HasDates (get_or l.layers k d)
