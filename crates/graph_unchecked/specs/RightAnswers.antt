-- What is answered of commits of a graph that is right. The same is answered by a scan of all ids, and a search in memory.
use Rattle.std.specs.Prelude.{◌≡◌, ◌↔◌, ℕ, List, [], ◌∷◌, Bool, IsTrue, Option, Some, None, Vec}
use Rattle.std.specs.Global.{Global}
use Rattle.graph_walks.specs.Walks.{Reaches}
use Rattle.graph_format.specs.Layer.{Layer}
use Rattle.graph_format.specs.Lookup.{scan}
use Rattle.graph_format.specs.StoredHistory.{history_of}
use Rattle.gix_commitgraph.specs.Graph.{graph_ids}
use Rattle.gix_commitgraph.specs.IdWalks.{ids_at}
use Rattle.commit_search.specs.WalkAnswer.{IsShortestWalk}
use Rattle.commit_search.specs.Positions.{numbers_of}
use Rattle.graph_history.specs.GraphComparison.{IsComparisonInOrder}
use Rattle.answers.specs.FoundOf.{IsFoundOf, OfFirst, OfTwo}
use Rattle.answers.specs.declared.answer.Answer.{Answer}
use Rattle.answers.specs.declared.comparison.IdComparison.{IdComparison}

-- it is told whether the second commit leads to the first along parents
abbrev pub IsToldExactly : List Layer → ℕ → ℕ → Bool → Type 0
IsToldExactly layers first second told = IsTrue told ↔ Reaches (history_of layers) second first

-- the ids on a shortest walk along parents from the first commit to the second; none where there is no walk
abbrev pub IsShortestWalkOfIds : List Layer → ℕ → ℕ → Option (Vec (List ℕ) Global) → Type 0
IsShortestWalkOfIds layers first second (Some ids) =
    (walk : List ℕ) × IsShortestWalk (history_of layers) first second walk × (ids.items ≡ ids_at layers walk)
IsShortestWalkOfIds layers first second None = ¬ Reaches (history_of layers) first second

-- what the first commit and the others have in common, and the ids of the merge bases
abbrev pub IsIdComparisonOf : List Layer → ℕ → List ℕ → IdComparison (Vec (List ℕ) Global) → Type 0
IsIdComparisonOf layers first others answer =
    IsComparisonInOrder layers first others answer.comparison
    × (answer.base_ids.items ≡ ids_at layers (numbers_of answer.comparison.bases.positions.items))

-- a scan of all ids finds the least position of an id, or none
abbrev pub IsScanned : List Layer → List ℕ → Option ℕ → Type 0
IsScanned layers id found = scan (graph_ids layers) id ≡ found

-- what is so of the least positions of two ids, or which of them is at none
abbrev pub IsScannedBetween : {A : Type 0} → (List Layer → ℕ → ℕ → A → Type 0) → List ℕ → List ℕ → List Layer → Answer A
    → Type 0
IsScannedBetween IsSo first second layers answer =
    IsFoundOf (IsScanned layers) (OfTwo (IsSo layers)) (first ∷ second ∷ []) answer

-- what is so of the least positions of some ids, or the number of the first of them that is at none
abbrev pub IsScannedAmong : {A : Type 0} → (List Layer → ℕ → List ℕ → A → Type 0) → List (List ℕ) → List Layer → Answer A
    → Type 0
IsScannedAmong IsSo ids layers answer = IsFoundOf (IsScanned layers) (OfFirst (IsSo layers)) ids answer
