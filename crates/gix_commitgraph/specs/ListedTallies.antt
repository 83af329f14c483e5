-- parent count and greatest parent generation: of a commit, and of each suffix of an extra edge list
use Rattle.std.specs.Prelude.{◌≡◌, ℕ, ◌<◌, List, All, Option, None, SomeIff, length, map}
use Rattle.graph_walks.specs.Counts.{greatest}
use Rattle.graph_walks.specs.History.{Node, generation_at}
use Rattle.graph_format.specs.Layer.{Layer}
use Rattle.graph_format.specs.Parents.{DecodedParents}
use Rattle.graph_format.specs.StoredHistory.{history_of}
use Rattle.graph_layer.specs.ListedParents.{AreListed}
use Rattle.gix_commitgraph.specs.declared.verify.span.LayerSpan.{LayerSpan}
use Rattle.gix_commitgraph.specs.declared.verify.parents.ParentTally.{ParentTally}

-- These parents are decoded without a fault, and stand before `stop`.
pub record AreWithin (stop : ℕ) (parents : DecodedParents) : Type 0 where
  pub decoded : parents.fault ≡ None
  pub below : All (λ q. q.0 < stop) parents.positions

-- the number of these parents, and the greatest of their generation numbers
abbrev pub tally_of : List Node → DecodedParents → ParentTally
tally_of history parents = record {
  count = length parents.positions;
  max_generation = greatest (map (generation_at history) (map (λ q. q.0) parents.positions));
}

-- The tally of these parents: `Some` exactly where they are decoded without a fault and stand before `stop`.
abbrev pub IsTally : List Node → ℕ → DecodedParents → Option ParentTally → Type 0
IsTally history stop parents tally = SomeIff tally (AreWithin stop parents) (tally_of history parents)

-- One tally for each word of a layer's extra edge list, of the parents that are listed from that word on.
abbrev pub AreTallied : List Layer → LayerSpan → List (Option ParentTally) → Type 0
AreTallied layers span tallies = AreListed (IsTally (history_of layers) span.stop) span.file.now.edges tallies
