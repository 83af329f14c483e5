-- The kind of the ids of a question over a graph, or over none.
use Rattle.std.specs.Prelude.{◌≡◌, ℕ, List, [], ◌∷◌, ⊤, length, unwrap_or}
use Rattle.gix_hash_core.specs.Kind.{id_len}
use Rattle.gix_hash_core.specs.declared.kind.Kind.{Kind}
use Rattle.graph_format.specs.Layer.{Layer}
use Rattle.newer_commits.specs.declared.base_or_none.BaseOrNone.{BaseOrNone}

-- the ids of all commits are of this kind: that of the graph, and where there is none, that of the first id of the question
abbrev pub IsKindOver : List Layer → List (List ℕ) → Kind → Type 0
IsKindOver (layer ∷ layers) ids kind = layer.kind ≡ kind
IsKindOver [] (id ∷ ids) kind = length id ≡ id_len kind
IsKindOver [] [] kind = ⊤

-- For private contracts: the layers of the graph, none where there is no graph
abbrev pub layers_of_base : BaseOrNone (List Layer) → List Layer
layers_of_base base = unwrap_or base.base []
