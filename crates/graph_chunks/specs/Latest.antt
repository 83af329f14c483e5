-- the latest date of the parents of a commit, and of those that each suffix of an extra edge list names; for private contracts
-- alone
use Rattle.std.specs.Prelude.{◌≡◌, ◌≤◌, ℕ, List, [], All, length, map, option_map, slice_index, unwrap_or, Option}
use Rattle.graph_walks.specs.Counts.{greatest}
use Rattle.graph_walks.specs.Dates.{number_at}
use Rattle.graph_format.specs.Format.{words}
use Rattle.graph_format.specs.Layer.{Layer}
use Rattle.graph_format.specs.Parents.{DecodedParents, second_parents}
use Rattle.graph_format.specs.declared.parents.ParentEdge.TheVariants.{ExtraEdgeIndex}

-- the latest date of these parents, 0 where there are none
abbrev pub latest_of : List ℕ → DecodedParents → ℕ
latest_of dates parents = greatest (map (number_at dates) (map (λ pos. pos.0) parents.positions))

-- for each word of an extra edge list the latest date of the parents that are listed from it on
pub record AreLatest (dates : List ℕ) (edges : Option (List ℕ)) (latest : List ℕ) : Type 0 where
  pub each : (index : ℕ) → slice_index latest index ≡ latest_of dates (second_parents (ExtraEdgeIndex index) edges)

-- the words of a layer's extra edge list, none where it has no such list
abbrev pub words_in : Layer → List ℕ
words_in layer = unwrap_or (option_map words layer.edges) []

-- there is room for one number for each word of any one layer
abbrev pub HasRoomForLists : List Layer → List ℕ → Type 0
HasRoomForLists layers room = All (λ layer. length (words_in layer) ≤ length room) layers
