use Rattle.std.proofs.Common.{◌≤◌, ◌<◌, ℕ, length, get_or}
use Rattle.graph_format.specs.Layer.{Layer}
use Rattle.graph_chunks.specs.Latest.{words_in}
use Rattle.graph_chunks.proofs.dates.latest.room_for_lists.Given as goal

abbrev pub invariant-loop-layer : goal.invariant-loop-layer
invariant-loop-layer l = (k : ℕ) (d : Layer) → k < l.layer → length (words_in (get_or l.layers k d)) ≤ l.longest
