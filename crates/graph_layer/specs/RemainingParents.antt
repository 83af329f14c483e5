-- The items that an iterator over parents has left, and the bounds that it gives on their number.
use Rattle.std.specs.Prelude.{◌≡◌, ℕ, ◌-◌, if◌then◌else◌, List, [], ◌∷◌, Option, Some, None, option_map, Result}
use Rattle.std.specs.Iterator.{YieldsFirst}
use Rattle.graph_format.specs.Parents.{DecodedParents, edge_of, items_of, second_parents, both_parents}
use Rattle.graph_format.specs.declared.Position.{Position}
use Rattle.graph_format.specs.declared.parents.ParentEdge.{ParentEdge}
use Rattle.graph_format.specs.declared.parents.ParentEdge.TheVariants as edge
use Rattle.graph_format.specs.declared.parents.ParentError.{ParentError}
use Rattle.graph_layer.specs.declared.file.parents.Parents.{Parents}

-- the parents still to come: before the first item by both parent fields, and then by the second one, or by the index of the
-- next word of the extra edge list in its place
abbrev pub parents_ahead : Parents → DecodedParents
parents_ahead parents =
    if parents.started then second_parents (edge_of parents.next) parents.file.now.edges
    else both_parents (edge_of parents.next) (edge_of parents.after) parents.file.now.edges

-- the items still to come
abbrev pub parents_left : Parents → List (Result Position ParentError)
parents_left parents = items_of (parents_ahead parents)

-- Bounds on the number of items to come, the least and the greatest: before the first item, by both parent fields.
abbrev pub first_hint : ParentEdge → ParentEdge → ℕ × Option ℕ
first_hint edge.None edge.None = (0, Some 0)
first_hint edge.None _ = (1, Some 1)
first_hint (edge.ExtraEdgeIndex index) second = (1, Some 1)
first_hint (edge.GraphPosition pos) edge.None = (1, Some 1)
first_hint (edge.GraphPosition pos) (edge.GraphPosition next) = (2, Some 2)
first_hint (edge.GraphPosition pos) (edge.ExtraEdgeIndex index) = (2, None)

-- after the first position, by the second field
abbrev pub second_hint : ParentEdge → ℕ × Option ℕ
second_hint edge.None = (0, Some 0)
second_hint (edge.GraphPosition pos) = (1, Some 1)
second_hint (edge.ExtraEdgeIndex index) = (1, None)

-- the bounds that it gives: in the extra edge list one item comes at least, since the last word or a fault does
abbrev pub parents_hint : Parents → ℕ × Option ℕ
parents_hint parents =
    if parents.started then second_hint (edge_of parents.next) else first_hint (edge_of parents.next) (edge_of parents.after)

-- The bounds after an item is taken, from the bounds before and the items that are left: 0 where none is left; else at least
-- 1, and at most one less than before, where an upper bound was known.
abbrev pub hint_after : ℕ × Option ℕ → List (Result Position ParentError) → ℕ × Option ℕ
hint_after hint [] = (0, Some 0)
hint_after hint (item ∷ items) = (1, option_map (λ most. most - 1) hint.1)

-- One call of `next`: it gives the first of the items that are left, and the bounds are then those once an item is taken.
pub record GivesParent (old : Parents) (result : Option (Result Position ParentError)) (new : Parents) : Type 0 where
  pub steps : YieldsFirst parents_left old result new
  pub hint : parents_hint new ≡ hint_after (parents_hint old) (parents_left new)
