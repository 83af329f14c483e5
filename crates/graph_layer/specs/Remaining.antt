-- what the iterators over a layer have left
use Rattle.std.specs.Prelude.{ℕ, List, drop}
use Rattle.graph_format.specs.Layer.{Layer, positions_from}
use Rattle.graph_layer.specs.declared.file.access.Ids.{Ids}
use Rattle.graph_layer.specs.declared.file.access.BaseIds.{BaseIds}
use Rattle.graph_layer.specs.declared.file.access.Commits.{Commits}

abbrev pub ids_left : Ids → List (List ℕ)
ids_left ids = drop ids.next ids.file.now.ids

abbrev pub base_ids_left : BaseIds → List (List ℕ)
base_ids_left ids = drop ids.next ids.file.now.bases

abbrev pub commits_left : Commits → List (Layer × ℕ)
commits_left commits = positions_from commits.file.now commits.next
