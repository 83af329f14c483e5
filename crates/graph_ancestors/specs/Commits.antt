-- what is read of the commits of a graph on a search along parents
use Rattle.std.specs.Prelude.{◌≡◌, ◌⊎◌, ℕ, List, drop, slice_get, Option, None, option_map, Contains}
use Rattle.graph_walks.specs.History.{Node, IsParent}
use Rattle.graph_format.specs.Format.{Record}
use Rattle.graph_format.specs.Layer.{Layer, record_at}
use Rattle.graph_format.specs.StoredHistory.{history_of}
use Rattle.graph_format.specs.Parents.{edge_of, listed}
use Rattle.graph_format.specs.declared.parents.ParentEdge.{ParentEdge}
use Rattle.graph_format.specs.declared.parents.ParentEdge.TheVariants as edge
use Rattle.commit_search.specs.EdgeLists.{list_in, named_from}
use Rattle.gix_commitgraph.specs.Graph.{graph_commits}
use Rattle.gix_commitgraph.specs.GraphLaw.{LiesIn}

-- The words of a list from one on name parents of p, up to a last one.
pub record IsReading (history : List Node) (list : List ℕ) (p next : ℕ) : Type 0 where
  pub decoded : (listed (drop next list)).fault ≡ None
  pub parents : (q : ℕ) → Contains (named_from list next) q → IsParent history p q

-- a parent field of the commit at p names parents of p alone, in a right graph
abbrev pub NamesParents : List Layer → ℕ → ParentEdge → Type 0
NamesParents layers p edge.None = Unit {0}
NamesParents layers p (edge.GraphPosition pos) = IsParent (history_of layers) p pos.0
NamesParents layers p (edge.ExtraEdgeIndex index) =
    (l : ℕ) (layer : Layer) → LiesIn layers p l layer → IsReading (history_of layers) (list_in layers l) p index

-- the parent field names q
abbrev pub Names : List Layer → ℕ → ParentEdge → ℕ → Type 0
Names layers p edge.None q = ⊥
Names layers p (edge.GraphPosition pos) q = pos.0 ≡ q
Names layers p (edge.ExtraEdgeIndex index) q =
    (l : ℕ) × (layer : Layer) × LiesIn layers p l layer × Contains (named_from (list_in layers l) index) q

-- what both parent fields of a record say ("Commit Data")
abbrev pub fields_of : Record → ParentEdge × ParentEdge
fields_of r = (edge_of r.parent1, edge_of r.parent2)

-- those of the commit at p, as its record is stored
abbrev pub stored_fields : List Layer → ℕ → Option (ParentEdge × ParentEdge)
stored_fields layers p = option_map (λ place. fields_of (record_at place.0 place.1)) (slice_get (graph_commits layers) p)

-- What both parent fields of the commit at p say, in a right graph: together they name all its parents.
pub record AreParentFields (layers : List Layer) (p : ℕ) (fields : ParentEdge × ParentEdge) : Type 0 where
  pub first : NamesParents layers p fields.0
  pub second : NamesParents layers p fields.1
  pub all : (q : ℕ) → IsParent (history_of layers) p q → Names layers p fields.0 q ⊎ Names layers p fields.1 q
