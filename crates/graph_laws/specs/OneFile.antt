-- What the bytes of the file of one layer follow from, beside the commits. (gitformat-commit-graph.)
use Rattle.std.specs.Prelude.{◌≡◌, ◌↔◌, ◌∷◌, [], ℕ, List}
use Rattle.graph_chunks.specs.GraphStoredDates.{times_of, dates_of}
use Rattle.graph_encoder.specs.GitLayout.{IsInGitLayout}
use Rattle.graph_encoder.specs.Plan.{IsPlan}
use Rattle.graph_encoder.specs.Said.{SaysPlan}
use Rattle.graph_encoder.specs.declared.plan.FilePlan.{FilePlan}
use Rattle.graph_format.specs.Layer.{Layer, IsLayer}
use Rattle.graph_format.specs.OptionalChunks.{HasDates, times_in, index_in, data_in}
use Rattle.graph_format.specs.StoredHistory.{history_of}
use Rattle.graph_walks.specs.Dates.{AreRight}
use Rattle.gix_commitgraph.specs.Sound.{Sound}

-- The file of this layer is laid out as Git writes it: its chunks are Git's, in Git's order and without a gap; and what stands in
-- them is that of some plan, so that extra edges and overflowing offsets stand in the order of their commits, and none besides.
pub record IsLaidOut (file path : List ℕ) (layer : Layer) : Type 0 where
  pub read : IsLayer file path layer
  pub layout : IsInGitLayout file layer
  pub plan : FilePlan
  pub fits : IsPlan plan
  pub says : SaysPlan plan layer

-- The layer alone is a right graph, and its corrected dates are right, where it has some ("Generation Data").
pub record IsRightAlone (layer : Layer) : Type 0 where
  pub sound : Sound (layer ∷ [])
  pub dates : HasDates layer → AreRight (history_of (layer ∷ [])) (times_of (layer ∷ [])) (dates_of (layer ∷ []))

-- Both layers agree on what no commit says: the kind of hash, whether there are corrected dates, and the bytes of the filters
-- ("Bloom Filter Index", "Bloom Filter Data"). And of the two times that versions of Git read from an odd commit, they have the
-- same.
pub record AgreeBesides (one other : Layer) : Type 0 where
  pub kind : one.kind ≡ other.kind
  pub dated : HasDates one ↔ HasDates other
  pub index : index_in one ≡ index_in other
  pub filters : data_in one ≡ data_in other
  pub times : times_in one ≡ times_in other
