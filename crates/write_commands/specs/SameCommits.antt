-- What a layer has to say so that it has the commits of a graph ("OID Lookup", "Commit Data", "Extra Edge List").
use Rattle.std.specs.Prelude.{◌≡◌, ℕ, List, None, Some, IsSomeAnd, length, map, option_map, slice_get}
use Rattle.graph_walks.specs.History.{parents_at}
use Rattle.graph_format.specs.Format.{Record}
use Rattle.graph_format.specs.Layer.{Layer}
use Rattle.graph_format.specs.Order.{AreAscending}
use Rattle.graph_format.specs.Parents.{parents_of}
use Rattle.graph_format.specs.StoredHistory.{history_of}
use Rattle.gix_commitgraph.specs.Graph.{graph_ids, total}
use Rattle.graph_history.specs.RightGraph.{record_in}

-- The record says what the graph says of its commit at this position: the same tree and time, and parents with the same ids,
-- in the same order.
pub record SaysTheSame (layers : List Layer) (p : ℕ) (layer : Layer) (r : Record) : Type 0 where
  pub tree : option_map (λ s. s.tree) (record_in layers p) ≡ Some r.tree
  pub time : option_map (λ s. s.time) (record_in layers p) ≡ Some r.time
  pub decoded : (parents_of r layer.edges).fault ≡ None
  pub parents : map (slice_get layer.ids) (map (λ pos. pos.0) (parents_of r layer.edges).positions)
      ≡ map (slice_get (graph_ids layers)) (parents_at (history_of layers) p)

-- The layer has each commit of the graph, and no other, in the order of ids.
pub record HasSameCommits (layers : List Layer) (layer : Layer) : Type 0 where
  pub as_many : length layer.ids ≡ total layers
  pub ascending : AreAscending layer.ids
  pub each : (p : ℕ) (id : List ℕ) → slice_get (graph_ids layers) p ≡ Some id
      → (q : ℕ) × (slice_get layer.ids q ≡ Some id) × IsSomeAnd (slice_get layer.records q) (SaysTheSame layers p layer)
