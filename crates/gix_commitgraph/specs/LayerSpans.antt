-- the layers of a graph, each with the positions of its commits
use Rattle.std.specs.Prelude.{◌≡◌, ◌+◌, ℕ, List, Some, slice_get}
use Rattle.graph_format.specs.Layer.{Layer}
use Rattle.graph_layer.specs.Commit.{commit_layer, commit_pos}
use Rattle.gix_commitgraph.specs.Graph.{start, stop, IsGraph}
use Rattle.gix_commitgraph.specs.Distinct.{AreDistinctBelow}
use Rattle.graph_layer.specs.declared.file.commit.Commit.{Commit}
use Rattle.gix_commitgraph.specs.declared.verify.span.LayerSpan.{LayerSpan}

-- A layer of a graph, where its commits begin and end, and a position below which no two commits of the graph have one id.
pub record IsSpan (layers : List Layer) (span : LayerSpan) : Type 0 where
  pub graph : IsGraph layers
  pub there : slice_get layers span.layer ≡ Some span.file.now
  pub start : span.start ≡ start layers span.layer
  pub stop : span.stop ≡ stop layers span.layer
  pub distinct : AreDistinctBelow layers span.distinct

-- A commit of that layer, at a position of the graph.
pub record IsInSpan (span : LayerSpan) (commit : Commit) (pos : ℕ) : Type 0 where
  pub layer : commit_layer commit ≡ span.file.now
  pub at : pos ≡ span.start + commit_pos commit
