-- The parents of a commit, in Git's commit-graph format: its sections "Commit Data" and "Extra Edge List".
use Rattle.std.specs.Prelude.{ℕ, ◌-◌, ◌==◌, nat_lt, if◌then◌else◌, List, [], ◌∷◌, ◌++◌, map, drop, Option, Some, None, Result, Ok}
use Rattle.std.specs.Prelude.{Err}
use Rattle.graph_format.specs.Format.{Record, words}
use Rattle.graph_format.specs.declared.Position.{Position}
use Rattle.graph_format.specs.declared.parents.ParentEdge.{ParentEdge}
use Rattle.graph_format.specs.declared.parents.ParentEdge.TheVariants as edge
use Rattle.graph_format.specs.declared.parents.ExtraEdge.{ExtraEdge}
use Rattle.graph_format.specs.declared.parents.ExtraEdge.TheVariants as extra
use Rattle.graph_format.specs.declared.parents.ParentError.{ParentError}
use Rattle.graph_format.specs.declared.parents.ParentError.TheVariants.{SecondWithoutFirst, FirstIsEdgeIndex, NoEdgeList}
use Rattle.graph_format.specs.declared.parents.ParentError.TheVariants.{EdgeOverflow}

-- a number as a position in the graph
abbrev pub position_of : ℕ → Position
position_of n = record { 0 = n }

-- "Commit Data": a parent field is 0x70000000 where no parent is there. Otherwise, with its top bit set, its other bits are an
-- index into the extra edge list, and without it the field is a position.
abbrev pub edge_of : ℕ → ParentEdge
edge_of field =
    if field == 0x70000000 then edge.None
    else (if nat_lt field 0x80000000 then edge.GraphPosition (position_of field) else edge.ExtraEdgeIndex (field - 0x80000000))

-- "Extra Edge List": each word is a parent's position, and the last parent's has its top bit set as well. No word stands for
-- "no parent".
abbrev pub extra_edge_of : ℕ → ExtraEdge
extra_edge_of word =
    if nat_lt word 0x80000000 then extra.Internal (position_of word) else extra.Last (position_of (word - 0x80000000))

-- The parents, in order, and the fault that ends them, if there is one.
pub record DecodedParents : Type 0 where
  pub positions : List Position
  pub fault : Option ParentError

abbrev pub no_parents : DecodedParents
no_parents = record { positions = []; fault = None }

-- no parent, and a fault
abbrev pub faulty : ParentError → DecodedParents
faulty error = record { positions = []; fault = Some error }

-- one parent before others
abbrev pub followed_by : Position → DecodedParents → DecodedParents
followed_by pos rest = record { positions = pos ∷ rest.positions; fault = rest.fault }

-- one parent of the extra edge list, before what the later words list
abbrev pub extra_parent : ExtraEdge → DecodedParents → DecodedParents
extra_parent (extra.Internal pos) rest = followed_by pos rest
extra_parent (extra.Last pos) rest = followed_by pos no_parents

-- the parents that words list, up to and including the last one; where the words run out before it, that is the fault
abbrev pub listed : List ℕ → DecodedParents
listed [] = faulty EdgeOverflow
listed (word ∷ rest) = extra_parent (extra_edge_of word) (listed rest)

-- "Extra Edge List": the parents that the bytes of this chunk list from the word of this index on
abbrev pub extra_parents : List ℕ → ℕ → DecodedParents
extra_parents bytes index = listed (drop index (words bytes))

-- "Commit Data": what the second field gives, where the first is a position
abbrev pub second_parents : ParentEdge → Option (List ℕ) → DecodedParents
second_parents edge.None edges = no_parents
second_parents (edge.GraphPosition pos) edges = followed_by pos no_parents
second_parents (edge.ExtraEdgeIndex index) None = faulty NoEdgeList
second_parents (edge.ExtraEdgeIndex index) (Some edges) = extra_parents edges index

-- "Commit Data": what both fields give
abbrev pub both_parents : ParentEdge → ParentEdge → Option (List ℕ) → DecodedParents
both_parents edge.None edge.None edges = no_parents
both_parents edge.None _ edges = faulty SecondWithoutFirst
both_parents (edge.ExtraEdgeIndex index) second edges = faulty FirstIsEdgeIndex
both_parents (edge.GraphPosition pos) second edges = followed_by pos (second_parents second edges)

-- the parents of a record, in a layer whose extra edge list has these bytes, or that has none
abbrev pub parents_of : Record → Option (List ℕ) → DecodedParents
parents_of r edges = both_parents (edge_of r.parent1) (edge_of r.parent2) edges

-- the fault, where there is one
abbrev pub fault_items : Option ParentError → List (Result Position ParentError)
fault_items None = []
fault_items (Some error) = Err error ∷ []

-- what an iterator over parents gives: each parent, and then the fault
abbrev pub items_of : DecodedParents → List (Result Position ParentError)
items_of parents = map (λ pos. Ok pos) parents.positions ++ fault_items parents.fault

-- the first of the items
abbrev pub first_of : List (Result Position ParentError) → Result (Option Position) ParentError
first_of [] = Ok None
first_of (Ok pos ∷ items) = Ok (Some pos)
first_of (Err error ∷ items) = Err error
