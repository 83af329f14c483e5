-- the line of a commit by its layer and its position there
use Rattle.std.specs.Prelude.{ℕ, List}
use Rattle.graph_format.specs.Layer.{Layer, record_at}
use Rattle.graph_format.specs.Faults.{id_at}
use Rattle.graph_commands.specs.Listing.{commit_line}

abbrev pub position_line : Layer × ℕ → List ℕ
position_line (layer, pos) = commit_line layer.edges (pos, (id_at layer pos, record_at layer pos))
