-- the words of the extra edge lists of layers, and the parents that they name ("Extra Edge List")
use Rattle.std.specs.Prelude.{ℕ, List, [], map, drop, slice_get}
use Rattle.std.specs.Option.{option_map_or}
use Rattle.graph_format.specs.Format.{words}
use Rattle.graph_format.specs.Layer.{Layer}
use Rattle.graph_format.specs.Parents.{listed}
use Rattle.graph_format.specs.declared.parents.ExtraEdge.{ExtraEdge}
use Rattle.graph_format.specs.declared.parents.ExtraEdge.TheVariants as extra

-- the words of a layer's extra edge list, none where it has no such list
abbrev pub list_of : Layer → List ℕ
list_of layer = option_map_or words layer.edges []

-- those of the layer with this index
abbrev pub list_in : List Layer → ℕ → List ℕ
list_in layers l = option_map_or list_of (slice_get layers l) []

-- the parent that a word names
abbrev pub named_by : ExtraEdge → ℕ
named_by (extra.Internal pos) = pos.0
named_by (extra.Last pos) = pos.0

-- the parents that the words of a list name from one on
abbrev pub named_from : List ℕ → ℕ → List ℕ
named_from list next = map (λ pos. pos.0) (listed (drop next list)).positions
