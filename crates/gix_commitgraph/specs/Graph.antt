-- a graph: its layers, from the lowest on ("Base Graphs List"; "Commit-Graphs Chains" of Git's commit-graph design)
use Rattle.std.specs.Prelude.{◌≡◌, ℕ, ◌+◌, ◌<◌, ◌≤◌, List, AllPairs, All, length, sum_by, take}
use Rattle.std.specs.List.{flat_map}
use Rattle.graph_format.specs.Layer.{Layer, IsOpened, positions_from}
use Rattle.graph_format.specs.declared.TheConstants.{MAX_COMMITS}

-- the ids of a graph: those of its layers, one layer after another
abbrev pub graph_ids : List Layer → List (List ℕ)
graph_ids layers = flat_map (λ layer. layer.ids) layers

-- its commits, each as its layer and its position there
abbrev pub graph_commits : List Layer → List (Layer × ℕ)
graph_commits layers = flat_map (λ layer. positions_from layer 0) layers

-- how many commits it has
abbrev pub total : List Layer → ℕ
total layers = sum_by (λ layer. length layer.ids) layers

-- how many commits stand before layer i
unfoldable pub start : List Layer → ℕ → ℕ
start layers i = total (take i layers)

-- how many stand before the layer after it
abbrev pub stop : List Layer → ℕ → ℕ
stop layers i = start layers (i + 1)

-- What makes layers a graph.
pub record MakesGraph (layers : List Layer) : Type 0 where
  pub some : 0 < length layers
  pub few : total layers ≤ MAX_COMMITS
  -- each two have ids of one kind
  pub alike : AllPairs (λ layer later. layer.kind ≡ later.kind) layers

-- What every graph keeps.
pub record IsGraph (layers : List Layer) : Type 0 where
  pub makes : MakesGraph layers
  pub opened : All IsOpened layers
