-- where a commit stands on which the check of a graph calls the processor
use Rattle.std.specs.Prelude.{◌≡◌, ℕ, List, Some, slice_get}
use Rattle.graph_format.specs.Layer.{Layer}
use Rattle.graph_layer.specs.Commit.{layer_and_position}
use Rattle.gix_commitgraph.specs.Graph.{graph_commits}
use Rattle.graph_layer.specs.declared.file.commit.Commit.{Commit}

-- the commit stands at a position of the graph
abbrev pub InGraph : List Layer → ℕ → Commit → Type 0
InGraph layers position commit = slice_get (graph_commits layers) position ≡ Some (layer_and_position commit)
