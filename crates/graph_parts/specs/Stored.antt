-- What is stored of a commit.
use Rattle.std.specs.Prelude.{◌≡◌, ℕ, List, Some, slice_get, slice_index}
use Rattle.graph_format.specs.Format.{Record}
use Rattle.graph_format.specs.Layer.{Layer, record_at}
use Rattle.graph_format.specs.Parents.{edge_of, extra_edge_of}
use Rattle.graph_format.specs.declared.parents.ExtraEdge.{ExtraEdge}
use Rattle.gix_commitgraph.specs.Graph.{graph_commits}
use Rattle.graph_parts.specs.PartFiles.{edge_words}
use Rattle.graph_parts.specs.declared.layer.StoredCommit.{StoredCommit}

-- What a record stores of its commit ("Commit Data").
pub record StoresCommit (r : Record) (commit : StoredCommit) : Type 0 where
  pub generation : commit.generation ≡ r.generation
  pub time : commit.time ≡ r.time
  pub first : commit.first ≡ edge_of r.parent1
  pub second : commit.second ≡ edge_of r.parent2

-- What is stored of the commit at a position of a graph.
pub record StoresAt (layers : List Layer) (p : ℕ) (commit : StoredCommit) : Type 0 where
  pub layer : Layer
  pub pos : ℕ
  pub stands : slice_get (graph_commits layers) p ≡ Some (layer, pos)
  pub stores : StoresCommit (record_at layer pos) commit

-- What the word of an index in the extra edge list of a layer says ("Extra Edge List").
pub record StoresEdge (layers : List Layer) (l index : ℕ) (edge : ExtraEdge) : Type 0 where
  pub layer : Layer
  pub there : slice_get layers l ≡ Some layer
  pub says : edge ≡ extra_edge_of (slice_index (edge_words layer) index)
