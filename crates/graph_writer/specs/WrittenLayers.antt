-- A layer that was written: what it says of the commits that were handed in, and what the graph with it keeps ("OID Lookup",
-- "Commit Data", "Base Graphs List", "Generation Data").
use Rattle.std.specs.Prelude.{◌≡◌, ◌++◌, ◌∷◌, [], ℕ, List, None, Some, All, IsSomeAnd, length, map, slice_get}
use Rattle.graph_walks.specs.Dates.{AreRight}
use Rattle.graph_format.specs.Format.{Record}
use Rattle.graph_format.specs.Layer.{Layer}
use Rattle.graph_format.specs.NameRule.{KeepsNameRule}
use Rattle.graph_format.specs.Order.{AreAscending}
use Rattle.graph_format.specs.Parents.{parents_of}
use Rattle.graph_format.specs.StoredHistory.{history_of}
use Rattle.gix_commitgraph.specs.Distinct.{AreDistinct}
use Rattle.gix_commitgraph.specs.Graph.{graph_ids}
use Rattle.gix_commitgraph.specs.Sound.{Sound}
use Rattle.graph_format.specs.OptionalChunks.{HasDates}
use Rattle.graph_chunks.specs.GraphStoredDates.{times_of, dates_of}
use Rattle.graph_writer.specs.NewCommits.{HoldIds}
use Rattle.graph_writer.specs.WriteRefusal.{kind_to_write}
use Rattle.graph_writer.specs.declared.commit.NewCommit.{NewCommit}

-- The record says what was handed in of the commit: its tree, its time and its parents, whose ids stand at the positions that it
-- names among the ids of the graph.
pub record SaysNewCommit (all : List (List ℕ)) (layer : Layer) (commit : NewCommit) (r : Record) : Type 0 where
  pub tree : r.tree ≡ commit.tree
  pub time : r.time ≡ commit.time
  pub decoded : (parents_of r layer.edges).fault ≡ None
  pub parents : HoldIds all (map (λ pos. pos.0) (parents_of r layer.edges).positions) commit.parents.items

-- The layer has each commit that was handed in, and no other, in the order of ids.
pub record HasNewCommits (all : List (List ℕ)) (commits : List NewCommit) (layer : Layer) : Type 0 where
  pub as_many : length layer.ids ≡ length commits
  pub ascending : AreAscending layer.ids
  pub each : (i : ℕ) (commit : NewCommit) → slice_get commits i ≡ Some commit
      → (p : ℕ) × (slice_get layer.ids p ≡ Some commit.id)
      × IsSomeAnd (slice_get layer.records p) (SaysNewCommit all layer commit)

-- The layer is one of these commits on top of these layers, which make a graph that is right.
pub record IsWrittenLayer (layers : List Layer) (handed : List NewCommit) (layer : Layer) : Type 0 where
  pub kind : layer.kind ≡ kind_to_write layers handed
  pub bases : layer.bases ≡ map (λ below. below.checksum) layers
  pub commits : HasNewCommits (graph_ids (layers ++ layer ∷ [])) handed layer
  -- with the layer the graph is right, unless the layer's file has the name of another layer of a chain
  pub sound : KeepsNameRule layer.path layer.checksum → Sound (layers ++ layer ∷ [])
  -- no id stands twice in it where none did below
  pub distinct : AreDistinct layers → AreDistinct (layers ++ layer ∷ [])
  -- where all layers below have corrected dates, as where there are none, the layer has them too, and they are right
  pub dates : All HasDates layers → HasDates layer
      × AreRight (history_of (layers ++ layer ∷ [])) (times_of (layers ++ layer ∷ [])) (dates_of (layers ++ layer ∷ []))
  pub no_dates : ¬ All HasDates layers → ¬ HasDates layer
