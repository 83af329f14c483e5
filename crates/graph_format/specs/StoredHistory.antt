-- The history that a commit-graph stores: its commits by position, each with its stored generation number and the positions
-- of its parents, first parent first ("Commit Data", "Extra Edge List").
use Rattle.std.specs.Prelude.{List, map}
use Rattle.std.specs.List.{flat_map}
use Rattle.graph_walks.specs.History.{Node}
use Rattle.graph_format.specs.Format.{Record}
use Rattle.graph_format.specs.Layer.{Layer}
use Rattle.graph_format.specs.Parents.{parents_of}

-- what a record says of its commit, in a layer whose extra edge list has these bytes; parents that cannot be decoded are left out
abbrev pub node_of : Layer → Record → Node
node_of layer r = record { generation = r.generation; parents = map (λ pos. pos.0) (parents_of r layer.edges).positions }

-- the commits of a layer
unfoldable pub layer_history : Layer → List Node
layer_history layer = map (node_of layer) layer.records

-- the commits of a graph: those of its layers, one layer after another
unfoldable pub history_of : List Layer → List Node
history_of layers = flat_map layer_history layers
