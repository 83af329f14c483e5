-- walks along parents by the ids of their commits
use Rattle.std.specs.Prelude.{◌≡◌, ℕ, List, [], ◌∷◌, map, slice_get, slice_index_or, Some}
use Rattle.graph_walks.specs.History.{IsParent}
use Rattle.graph_format.specs.Layer.{Layer}
use Rattle.graph_format.specs.StoredHistory.{history_of}
use Rattle.gix_commitgraph.specs.Graph.{graph_ids}

-- a commit with the one id has a parent with the other
abbrev pub IsParentId : List Layer → List ℕ → List ℕ → Type 0
IsParentId layers id parent =
    (p : ℕ) × (q : ℕ) × (slice_get (graph_ids layers) p ≡ Some id) × (slice_get (graph_ids layers) q ≡ Some parent)
    × IsParent (history_of layers) p q

-- each id after the first is that of a parent of a commit with the id before it
abbrev pub IsIdWalk : List Layer → List (List ℕ) → Type 0
IsIdWalk layers [] = ⊥
IsIdWalk layers (id ∷ []) = (p : ℕ) × (slice_get (graph_ids layers) p ≡ Some id)
IsIdWalk layers (id ∷ next ∷ rest) = IsParentId layers id next × IsIdWalk layers (next ∷ rest)

-- the ids of the commits at some positions
abbrev pub ids_at : List Layer → List ℕ → List (List ℕ)
ids_at layers walk = map (λ p. slice_index_or (graph_ids layers) p []) walk
