-- what a graph keeps: its layers, and where each starts
use Rattle.std.specs.Prelude.{◌≡◌, ◌<◌, ℕ, List, length, slice_index}
use Rattle.graph_format.specs.Layer.{Layer}
use Rattle.gix_commitgraph.specs.Graph.{start, IsGraph}

-- One number for each layer: how many commits stand before it.
pub record AreStarts (layers : List Layer) (starts : List ℕ) : Type 0 where
  pub one_each : length starts ≡ length layers
  pub each : (i : ℕ) → i < length starts → slice_index starts i ≡ start layers i

-- Layers that make a graph, and their starts.
pub record IsGraphWithStarts (layers : List Layer) (starts : List ℕ) : Type 0 where
  pub graph : IsGraph layers
  pub counted : AreStarts layers starts
