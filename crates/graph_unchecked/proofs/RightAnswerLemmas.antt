-- what is found of a right graph is what a scan finds, and exact
use Rattle.std.proofs.Common.{◌≡◌, ℕ, List, [], ◌∷◌, Bool, Option, Some, None, Ok, Vec, sym, subst}
use Rattle.std.specs.Global.{Global}
use Rattle.graph_folder.specs.Tree.{Tree}
use Rattle.graph_format.specs.Layer.{Layer}
use Rattle.graph_format.specs.Lookup.{scan}
use Rattle.gix_commitgraph.specs.Graph.{graph_ids}
use Rattle.gix_commitgraph.specs.GraphLookup.{FoundIn}
use Rattle.gix_commitgraph.specs.Sound.{Sound}
use Rattle.graph_parts.specs.PathOpening.{opened_at}
use Rattle.graph_unchecked.specs.RightAnswers.{IsIdComparisonOf, IsScanned, IsScannedAmong, IsScannedBetween}
use Rattle.graph_unchecked.specs.RightAnswers.{IsShortestWalkOfIds, IsToldExactly}
use Rattle.graph_unchecked.specs.Unchecked.{HasNoWrongDate, IsAnswerAt, IsComparedUnchecked, IsFoundAmong, IsFoundBetween}
use Rattle.graph_unchecked.specs.Unchecked.{IsToldUnchecked, IsWalkUnchecked}
use Rattle.answers.specs.declared.answer.Answer.{Answer}
use Rattle.answers.specs.declared.comparison.IdComparison.{IdComparison}
use Rattle.answers.specs.FoundOf.{OfFirst, OfTwo}
use Rattle.answers.proofs.FoundLemmas.{all_so, found_same, two_so}

-- what is so of the opened graph is so of the layers that the opener finds
at-layers : {A : Type 0} (tree : Tree) (path : List ℕ) (IsSo : List Layer → A → Type 0) (answer : A) (layers : List Layer)
    → opened_at tree path ≡ Ok layers → IsAnswerAt tree path IsSo answer → IsSo layers answer
at-layers tree path IsSo answer layers opens at =
    let first = at.opens in
    let same : at.layers ≡ layers = cc in
    subst (λ (l : List Layer). IsSo l answer) same at.so

told-exactly : (layers : List Layer) (first second : ℕ) (told : Bool) → Sound layers
    → IsToldUnchecked layers first second told → IsToldExactly layers first second told
told-exactly layers first second told sound so = (so.there, so.all sound.generations)

shortest-walk : (layers : List Layer) (first second : ℕ) (answer : Option (Vec (List ℕ) Global)) → Sound layers
    → IsWalkUnchecked layers first second answer → IsShortestWalkOfIds layers first second answer
shortest-walk layers first second (Some ids) sound so = so.shortest sound.generations
shortest-walk layers first second None sound so = so.none sound.generations

exact-comparison : (layers : List Layer) (first : ℕ) (others : List ℕ) (answer : IdComparison (Vec (List ℕ) Global))
    → Sound layers → HasNoWrongDate layers → IsComparedUnchecked layers first others answer
    → IsIdComparisonOf layers first others answer
exact-comparison layers first others answer sound dated so = (so.exact sound.generations dated, so.ids)

module _ (law : (layers : List Layer) (id : List ℕ) (answer : Option ℕ) → Sound layers → FoundIn layers id answer
    → answer ≡ scan (graph_ids layers) id) (layers : List Layer) (sound : Sound layers) where
  scans : (id : List ℕ) (found : Option ℕ) → FoundIn layers id found → IsScanned layers id found
  scans id found is = sym (law layers id found sound is)

  between : {A : Type 0} (IsSo IsRight : List Layer → ℕ → ℕ → A → Type 0)
      → ((p q : ℕ) (answer : A) → IsSo layers p q answer → IsRight layers p q answer) → (first second : List ℕ)
      (answer : Answer A) → IsFoundBetween IsSo first second layers answer
      → IsScannedBetween IsRight first second layers answer
  between IsSo IsRight right first second answer found =
      found_same (FoundIn layers) (IsScanned layers) scans (OfTwo (IsSo layers)) (OfTwo (IsRight layers))
      (first ∷ second ∷ []) answer (two_so (λ x. x) (IsSo layers) (IsRight layers) right) found

  among : {A : Type 0} (IsSo IsRight : List Layer → ℕ → List ℕ → A → Type 0)
      → ((p : ℕ) (others : List ℕ) (answer : A) → IsSo layers p others answer → IsRight layers p others answer)
      → (ids : List (List ℕ)) (answer : Answer A) → IsFoundAmong IsSo ids layers answer
      → IsScannedAmong IsRight ids layers answer
  among IsSo IsRight right ids answer found =
      found_same (FoundIn layers) (IsScanned layers) scans (OfFirst (IsSo layers)) (OfFirst (IsRight layers)) ids answer
      (all_so (λ x. x) (IsSo layers) (IsRight layers) right) found

  pub told-right : (tree : Tree) (path first second : List ℕ) (answer : Answer Bool) → opened_at tree path ≡ Ok layers
      → IsAnswerAt tree path (IsFoundBetween IsToldUnchecked first second) answer
      → IsScannedBetween IsToldExactly first second layers answer
  told-right tree path first second answer opens at =
      between IsToldUnchecked IsToldExactly (λ p q told. told-exactly layers p q told sound) first second answer
      (at-layers tree path (IsFoundBetween IsToldUnchecked first second) answer layers opens at)

  pub walk-right : (tree : Tree) (path first second : List ℕ) (answer : Answer (Option (Vec (List ℕ) Global)))
      → opened_at tree path ≡ Ok layers → IsAnswerAt tree path (IsFoundBetween IsWalkUnchecked first second) answer
      → IsScannedBetween IsShortestWalkOfIds first second layers answer
  walk-right tree path first second answer opens at =
      between IsWalkUnchecked IsShortestWalkOfIds (λ p q ids. shortest-walk layers p q ids sound) first second answer
      (at-layers tree path (IsFoundBetween IsWalkUnchecked first second) answer layers opens at)

  pub comparison-right : HasNoWrongDate layers → (tree : Tree) (path : List ℕ) (ids : List (List ℕ))
      (answer : Answer (IdComparison (Vec (List ℕ) Global)))
      → opened_at tree path ≡ Ok layers → IsAnswerAt tree path (IsFoundAmong IsComparedUnchecked ids) answer
      → IsScannedAmong IsIdComparisonOf ids layers answer
  comparison-right dated tree path ids answer opens at =
      among IsComparedUnchecked IsIdComparisonOf (λ p others found. exact-comparison layers p others found sound dated) ids answer
      (at-layers tree path (IsFoundAmong IsComparedUnchecked ids) answer layers opens at)
