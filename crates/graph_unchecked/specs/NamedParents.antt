-- For private contracts: which commits the parent fields of a commit name, in their order ("Commit Data").
use Rattle.std.specs.Prelude.{ℕ, List, [], ◌∷◌}
use Rattle.graph_format.specs.declared.parents.ParentEdge.{ParentEdge}
use Rattle.graph_format.specs.declared.parents.ParentEdge.TheVariants as edge
use Rattle.commit_search.specs.EdgeLists.{named_from}

-- the second field, where the extra edge list of the layer has these words
abbrev pub named_by_second : List ℕ → ParentEdge → List ℕ
named_by_second list edge.None = []
named_by_second list (edge.GraphPosition pos) = pos.0 ∷ []
named_by_second list (edge.ExtraEdgeIndex index) = named_from list index

-- both fields
abbrev pub named_by_both : List ℕ → ParentEdge → ParentEdge → List ℕ
named_by_both list edge.None second = []
named_by_both list (edge.GraphPosition pos) second = pos.0 ∷ named_by_second list second
named_by_both list (edge.ExtraEdgeIndex index) second = []
