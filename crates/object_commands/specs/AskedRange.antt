-- the positions of a graph that a command is asked for
use Rattle.std.specs.Prelude.{◌≡◌, ◌<◌, ◌≤◌, ◌^◌, ℕ, List, Option, decimal, unwrap_or}
use Rattle.graph_format.specs.Layer.{Layer}
use Rattle.gix_commitgraph.specs.Graph.{total}
use Rattle.object_commands.specs.declared.range.PositionRange.{PositionRange}

-- The texts are the first position of a range and the one after its last, in decimal. Each has 32 bits.
pub record SpellsRange (from to : List ℕ) (range : PositionRange) : Type 0 where
  pub first : from ≡ decimal range.from
  pub end : to ≡ decimal range.to
  pub first_fits : range.from < 2 ^ 32
  pub end_fits : range.to < 2 ^ 32

-- all positions of a graph
abbrev pub whole_range : List Layer → PositionRange
whole_range layers = record { from = 0; to = total layers }

-- the positions that are asked for: all, where no range is given
abbrev pub asked_range : List Layer → Option PositionRange → PositionRange
asked_range layers asked = unwrap_or asked (whole_range layers)

-- The range ends where it begins or later, and the graph has its positions.
pub record IsRangeOf (layers : List Layer) (range : PositionRange) : Type 0 where
  pub order : range.from ≤ range.to
  pub within : range.to ≤ total layers
