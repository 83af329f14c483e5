-- What questions about the commits with some ids answer, in ids. An id stands for the commit at its least position.
use Rattle.std.specs.Prelude.{◌≡◌, ◌⊎◌, ◌≤◌, ℕ, List, [], ◌∷◌, AllPairs, IsSome, MatchOption, Some}
use Rattle.std.specs.Option.{option_map_or}
use Rattle.gix_commitgraph.specs.History.{Node, generation_at, parents_at}
use Rattle.gix_commitgraph.specs.Walks.{Reaches}
use Rattle.gix_commitgraph.specs.Layer.{Layer}
use Rattle.gix_commitgraph.specs.Lookup.{scan}
use Rattle.gix_commitgraph.specs.StoredHistory.{history_of}
use Rattle.gix_commitgraph.specs.Graph.{graph_ids}
use Rattle.gix_commitgraph.specs.IdWalks.{ids_at}
use Rattle.commit_search.specs.Cardinality.{Lists}
use Rattle.graph_bases.specs.Bases.{AreMergeBases}

-- the graph has a commit with the id
abbrev pub HasCommitWithId : List Layer → List ℕ → Type 0
HasCommitWithId layers id = IsSome (scan (graph_ids layers) id)

-- the ids of the parents of the commit with an id, first parent first ("Commit Data"); none where there is no such commit
abbrev pub parent_ids_of : List Layer → List ℕ → List (List ℕ)
parent_ids_of layers id =
    option_map_or (λ p. ids_at layers (parents_at (history_of layers) p)) (scan (graph_ids layers) id) []

-- the commit with an id is merged into the one with another: that one leads to it ("git branch --merged")
abbrev pub IsMergedInto : List Layer → List ℕ → List ℕ → Type 0
IsMergedInto layers into id =
    (p : ℕ) × (q : ℕ) × (scan (graph_ids layers) into ≡ Some p) × (scan (graph_ids layers) id ≡ Some q)
    × Reaches (history_of layers) p q

-- the second list has the elements of the first that have a property, in their order, and no others
abbrev pub AreThose : {A : Type 0} → (A → Type 0) → List A → List A → Type 0
AreThose P [] those = those ≡ []
AreThose {A} P (x ∷ xs) those =
    ((rest : List A) × P x × (those ≡ x ∷ rest) × AreThose P xs rest) ⊎ ((¬ P x) × AreThose P xs those)

-- The commits to which one leads, each once, and none before one with a greater generation number.
pub record AreAncestors (history : List Node) (start : ℕ) (positions : List ℕ) : Type 0 where
  pub lists : Lists positions (Reaches history start)
  pub order : AllPairs (λ p q. generation_at history q ≤ generation_at history p) positions

-- the ids of the commit with an id and of all its ancestors, none where there is no such commit
abbrev pub AreAncestorIds : List Layer → List ℕ → List (List ℕ) → Type 0
AreAncestorIds layers id ids =
    MatchOption (scan (graph_ids layers) id) (ids ≡ []) (λ start.
    (positions : List ℕ) × AreAncestors (history_of layers) start positions × (ids ≡ ids_at layers positions))

-- the ids of the merge bases of the commits with two ids, none where one of these is missing
abbrev pub AreBaseIds : List Layer → List ℕ → List ℕ → List (List ℕ) → Type 0
AreBaseIds layers first second ids =
    MatchOption (scan (graph_ids layers) first) (ids ≡ []) (λ p.
    MatchOption (scan (graph_ids layers) second) (ids ≡ []) (λ q.
    (bases : List ℕ) × AreMergeBases (history_of layers) p (q ∷ []) bases × (ids ≡ ids_at layers bases)))
