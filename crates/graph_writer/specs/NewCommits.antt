-- Commits that are handed in to be written, in the order in which they came, and the graph that they are to lie on.
use Rattle.std.specs.Prelude.{◌≡◌, ℕ, List, [], map, slice_get, Option, Some}
use Rattle.std.specs.Option.{option_map_or}
use Rattle.graph_format.specs.Layer.{Layer}
use Rattle.graph_format.specs.Lookup.{scan}
use Rattle.graph_history.specs.RightGraph.{CheckedLayers}
use Rattle.graph_writer.specs.declared.commit.NewCommit.{NewCommit}
use denote.Ref.{Bor}

-- the layers of the graph below, none where there is no graph
abbrev pub layers_of_below : Option (Bor CheckedLayers) → List Layer
layers_of_below below = option_map_or (λ graph. graph.now.layers) below []

-- the ids of the commits
abbrev pub new_ids : List NewCommit → List (List ℕ)
new_ids commits = map (λ commit. commit.id) commits

-- their times
abbrev pub new_times : List NewCommit → List ℕ
new_times commits = map (λ commit. commit.time) commits

-- The positions are those of these ids, one by one.
abbrev pub HoldIds : List (List ℕ) → List ℕ → List (List ℕ) → Type 0
HoldIds all positions ids = map (slice_get all) positions ≡ map (λ id. Some id) ids

-- The positions are the first of these ids, one by one.
abbrev pub AreFirst : List (List ℕ) → List ℕ → List (List ℕ) → Type 0
AreFirst all positions ids = map (λ p. Some p) positions ≡ map (scan all) ids
