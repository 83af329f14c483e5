-- The commits of a graph as commits that are handed in for a new file: what its records say, with parents by their ids ("OID
-- Lookup", "Commit Data", "Extra Edge List").
use Rattle.std.specs.Prelude.{◌≡◌, ℕ, List, Some, length, option_map, slice_get}
use Rattle.graph_walks.specs.History.{parents_at}
use Rattle.graph_format.specs.Layer.{Layer}
use Rattle.graph_format.specs.StoredHistory.{history_of}
use Rattle.gix_commitgraph.specs.Graph.{graph_ids, total}
use Rattle.graph_history.specs.RightGraph.{record_in}
use Rattle.graph_writer.specs.NewCommits.{HoldIds}
use Rattle.graph_writer.specs.declared.commit.NewCommit.{NewCommit}

-- The commit is the one at a position of the graph: it has that id, the root tree and the time of that record, and the ids that
-- stand at the positions of its parents, first parent first.
pub record IsCommitAt (layers : List Layer) (p : ℕ) (commit : NewCommit) : Type 0 where
  pub id : slice_get (graph_ids layers) p ≡ Some commit.id
  pub tree : option_map (λ r. r.tree) (record_in layers p) ≡ Some commit.tree
  pub time : option_map (λ r. r.time) (record_in layers p) ≡ Some commit.time
  pub parents : HoldIds (graph_ids layers) (parents_at (history_of layers) p) commit.parents.items

-- The commits are those of the graph, one for each position, in order.
pub record AreCommitsOf (layers : List Layer) (commits : List NewCommit) : Type 0 where
  pub as_many : length commits ≡ total layers
  pub each : (p : ℕ) (commit : NewCommit) → slice_get commits p ≡ Some commit → IsCommitAt layers p commit
