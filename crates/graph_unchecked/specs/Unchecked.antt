-- what is answered of commits of a graph that is not checked
use Rattle.std.specs.Prelude.{◌≡◌, ℕ, ◌*◌, ◌≤◌, List, [], ◌∷◌, All, Bool, IsTrue, IfSome, IfNone, Option, Some, Ok, Vec}
use Rattle.std.specs.Global.{Global}
use Rattle.graph_walks.specs.Walks.{CountWalks, IsWalkBetween, Reaches}
use Rattle.graph_folder.specs.Tree.{Tree}
use Rattle.graph_format.specs.Layer.{Layer}
use Rattle.graph_format.specs.OptionalChunks.{HasDates}
use Rattle.graph_format.specs.StoredHistory.{history_of}
use Rattle.gix_commitgraph.specs.Graph.{IsGraph, total}
use Rattle.gix_commitgraph.specs.GraphLookup.{FoundIn}
use Rattle.gix_commitgraph.specs.IdWalks.{ids_at}
use Rattle.commit_search.specs.WalkAnswer.{IsShortestWalk}
use Rattle.commit_search.specs.Positions.{numbers_of}
use Rattle.graph_bases.specs.Bases.{IsCommonAncestor}
use Rattle.graph_chunks.specs.GraphStoredDates.{dates_of}
use Rattle.graph_history.specs.GraphComparison.{AreDatesOf, IsComparisonInOrder}
use Rattle.graph_parts.specs.PathOpening.{opened_at}
use Rattle.answers.specs.FoundOf.{IsFoundOf, OfFirst, OfTwo}
use Rattle.answers.specs.declared.answer.Answer.{Answer}
use Rattle.answers.specs.declared.comparison.IdComparison.{IdComparison}

-- it is told whether the second commit leads to the first along parents: a yes is so in any graph, and a no where each
-- generation number counts the commits of the longest walk
pub record IsToldUnchecked (layers : List Layer) (first second : ℕ) (told : Bool) : Type 0 where
  pub there : IsTrue told → Reaches (history_of layers) second first
  pub all : CountWalks (history_of layers) → Reaches (history_of layers) second first → IsTrue told

-- The ids on a walk along parents from the first commit to the second: in any graph that is one, and where each generation
-- number counts the commits of the longest walk it is a shortest one, and none is answered only where there is none.
pub record IsWalkUnchecked (layers : List Layer) (first second : ℕ) (answer : Option (Vec (List ℕ) Global)) : Type 0 where
  pub there : IfSome answer (λ ids.
      (walk : List ℕ) × IsWalkBetween (history_of layers) first second walk × (ids.items ≡ ids_at layers walk))
  pub shortest : CountWalks (history_of layers) → IfSome answer (λ ids.
      (walk : List ℕ) × IsShortestWalk (history_of layers) first second walk × (ids.items ≡ ids_at layers walk))
  pub none : CountWalks (history_of layers) → IfNone answer (¬ Reaches (history_of layers) first second)

-- none of the corrected dates is wrong: if each layer has dates, they are right
abbrev pub HasNoWrongDate : List Layer → Type 0
HasNoWrongDate layers = All HasDates layers → AreDatesOf layers (dates_of layers)

-- What the first commit and the others have in common, and the ids of the merge bases: in any graph each base is a common
-- ancestor, and no commit is visited more than three times; where each generation number counts the commits of the longest walk,
-- and no corrected date is wrong, the bases, the numbers on one side alone and the visits are exact.
pub record IsComparedUnchecked (layers : List Layer) (first : ℕ) (others : List ℕ)
    (answer : IdComparison (Vec (List ℕ) Global)) : Type 0 where
  pub common : All (λ base. IsCommonAncestor (history_of layers) first others base.0) answer.comparison.bases.positions.items
  pub visits : answer.comparison.bases.visits ≤ 3 * total layers
  pub exact : CountWalks (history_of layers) → HasNoWrongDate layers
      → IsComparisonInOrder layers first others answer.comparison
  pub ids : answer.base_ids.items ≡ ids_at layers (numbers_of answer.comparison.bases.positions.items)

-- what is found of the commits with two ids: which of them a lookup does not find, or what is so of the commits that it finds
abbrev pub IsFoundBetween : {A : Type 0} → (List Layer → ℕ → ℕ → A → Type 0) → List ℕ → List ℕ → List Layer → Answer A → Type 0
IsFoundBetween IsSo first second layers answer =
    IsFoundOf (FoundIn layers) (OfTwo (IsSo layers)) (first ∷ second ∷ []) answer

-- a lookup finds an id at this position
abbrev pub IsFoundAt : List Layer → List ℕ → ℕ → Type 0
IsFoundAt layers id p = FoundIn layers id (Some p)

-- what is found of the commits with some ids: the first of them that a lookup does not find, or what is so of the commits that it
-- finds
abbrev pub IsFoundAmong : {A : Type 0} → (List Layer → ℕ → List ℕ → A → Type 0) → List (List ℕ) → List Layer → Answer A → Type 0
IsFoundAmong IsSo ids layers answer = IsFoundOf (FoundIn layers) (OfFirst (IsSo layers)) ids answer

-- The answer is so of the graph that is opened at the path.
pub record IsAnswerAt {A : Type 0} (tree : Tree) (path : List ℕ) (IsSo : List Layer → A → Type 0) (answer : A) : Type 0 where
  pub layers : List Layer
  pub opens : opened_at tree path ≡ Ok layers
  pub graph : IsGraph layers
  pub so : IsSo layers answer
