-- when a graph is right: its layers, its parents and its generation numbers
use Rattle.std.specs.Prelude.{◌≡◌, ◌<◌, ◌≤◌, ℕ, List, All, length, map, take, slice_get, Some}
use Rattle.graph_format.specs.Layer.{Layer}
use Rattle.graph_format.specs.RightLayer.{IsRightLayer, AreParentsDecoded}
use Rattle.graph_format.specs.Parents.{parents_of}
use Rattle.gix_commitgraph.specs.Graph.{stop}
use Rattle.graph_format.specs.StoredHistory.{history_of}
use Rattle.graph_walks.specs.Walks.{CountWalks}

-- The rules for the layers of a graph.
pub record LayerRules (layers : List Layer) : Type 0 where
  pub few : length layers ≤ 256
  -- "Base Graphs List": the base ids of each layer are the checksums of the layers before it
  pub bases : (i : ℕ) (layer : Layer) → slice_get layers i ≡ Some layer → layer.bases ≡ map (λ l. l.checksum) (take i layers)
  pub each : All IsRightLayer layers

-- The parents of each commit can be decoded, and stand in its own layer or an earlier one.
pub record AreParentsKnown (layers : List Layer) (i : ℕ) (layer : Layer) : Type 0 where
  pub decoded : AreParentsDecoded layer
  pub within : All (λ r. All (λ q. q.0 < stop layers i) (parents_of r layer.edges).positions) layer.records

-- A graph is right.
pub record Sound (layers : List Layer) : Type 0 where
  pub rules : LayerRules layers
  pub parents : (i : ℕ) (layer : Layer) → slice_get layers i ≡ Some layer → AreParentsKnown layers i layer
  -- each stored generation number counts the commits of the longest walk along parents, up to the cap
  pub generations : CountWalks (history_of layers)
