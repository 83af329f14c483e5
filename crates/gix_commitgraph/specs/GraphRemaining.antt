-- what the iterators over a graph have left
use Rattle.std.specs.Prelude.{ℕ, List, [], ◌++◌, map, unwrap_or, slice_get}
use Rattle.graph_format.specs.Layer.{Layer}
use Rattle.graph_format.specs.Layer.{positions_from}
use Rattle.gix_commitgraph.specs.Graph.{graph_commits}
use Rattle.gix_commitgraph.specs.declared.iter.LayerCursor.{LayerCursor}
use Rattle.gix_commitgraph.specs.declared.iter.GraphIds.{GraphIds}
use Rattle.gix_commitgraph.specs.declared.iter.GraphCommits.{GraphCommits}

-- the id at a position of a layer
unfoldable pub id_of : Layer × ℕ → List ℕ
id_of place = unwrap_or (slice_get place.0.ids place.1) []

abbrev pub cursor_left : LayerCursor → List (Layer × ℕ)
cursor_left p = positions_from p.file.now p.next ++ graph_commits p.rest.now

abbrev pub graph_ids_left : GraphIds → List (List ℕ)
graph_ids_left ids = map id_of (cursor_left ids.places)

abbrev pub graph_commits_left : GraphCommits → List (Layer × ℕ)
graph_commits_left commits = cursor_left commits.places
