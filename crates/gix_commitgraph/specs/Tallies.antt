-- the tallies of the parents of commits
use Rattle.std.specs.Prelude.{◌≡◌, ◌≢◌, ℕ, ◌/◌, ◌%◌, ◌<◌, List, Option, None, length, map, slice_index_or}
use Rattle.graph_walks.specs.Counts.{greatest}
use Rattle.graph_walks.specs.History.{Node, generation_at, parents_at}
use Rattle.graph_format.specs.Layer.{Layer, record_at}
use Rattle.graph_format.specs.Parents.{DecodedParents, parents_of}
use Rattle.graph_format.specs.StoredHistory.{history_of}
use Rattle.gix_commitgraph.specs.declared.verify.span.LayerSpan.{LayerSpan}
use Rattle.gix_commitgraph.specs.declared.verify.parents.ParentTally.{ParentTally}
use Rattle.gix_commitgraph.specs.ListedTallies.{IsTally}

-- The number of the parents of the commit at a position, and the greatest of their generation numbers.
pub record IsParentTally (history : List Node) (p : ℕ) (tally : ParentTally) : Type 0 where
  pub count : tally.count ≡ length (parents_at history p)
  pub max_generation : tally.max_generation ≡ greatest (map (generation_at history) (parents_at history p))

-- the parents of the commit at a position of a layer
abbrev pub decoded_at : Layer → ℕ → DecodedParents
decoded_at layer layer_pos = parents_of (record_at layer layer_pos) layer.edges

-- The tally of the parents of the commit at a position of a layer: `Some` exactly where they are decoded without a fault and
-- stand before the layer's end.
abbrev pub IsGathered : List Layer → LayerSpan → ℕ → Option ParentTally → Type 0
IsGathered layers span layer_pos gathered = IsTally (history_of layers) span.stop (decoded_at span.file.now layer_pos) gathered

-- A batch has the tallies of 256 commits of a layer, among which the one at a position is, or of as many of them as there are.
abbrev pub AreGathered : List Layer → LayerSpan → ℕ → List (Option ParentTally) → Type 0
AreGathered layers span among batch =
    (layer_pos : ℕ) → layer_pos < length span.file.now.ids → layer_pos / 256 ≡ among / 256
    → IsGathered layers span layer_pos (slice_index_or batch (layer_pos % 256) None)

-- This was gathered before the check of the commit at a position, if that is not the first of its batch.
abbrev pub IsBatch : List Layer → LayerSpan → ℕ → List (Option ParentTally) → Type 0
IsBatch layers span layer_pos batch = layer_pos % 256 ≢ 0 → AreGathered layers span layer_pos batch
