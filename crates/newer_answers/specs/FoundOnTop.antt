-- For private contracts: the positions where ids are found.
use Rattle.std.specs.Prelude.{◌≡◌, ℕ, ◌+◌, ◌<◌, List, All, Option, Vec, ⊤, None, Some, slice_get, take}
use Rattle.std.specs.Global.{Global}
use Rattle.std.specs.List.{AllZip}
use Rattle.graph_format.specs.declared.Position.{Position}
use Rattle.commit_search.specs.Positions.{numbers_of}
use Rattle.answers.specs.FoundOf.{FindsAt, FindsSome}
use Rattle.answers.specs.declared.answer.Answer.{Answer}
use Rattle.answers.specs.declared.answer.Answer.TheVariants.{Unknown, Known}

-- both positions, as numbers
abbrev pub AreTwoPlaces : ℕ → ℕ → Position × Position → Type 0
AreTwoPlaces p q found = (p ≡ found.0.0) × (q ≡ found.1.0)

-- the first position and the others, as numbers
abbrev pub AreAllPlaces : ℕ → List ℕ → Position × Vec Position Global → Type 0
AreAllPlaces first others found = (first ≡ found.0.0) × (others ≡ numbers_of found.1.items)

-- they are some of so many
abbrev pub AreTwoBelow : ℕ → Answer (Position × Position) → Type 0
AreTwoBelow count (Unknown number) = ⊤
AreTwoBelow count (Known found) = (found.0.0 < count) × (found.1.0 < count)

abbrev pub AreAllBelow : ℕ → Answer (Position × Vec Position Global) → Type 0
AreAllBelow count (Unknown number) = ⊤
AreAllBelow count (Known found) = (found.0.0 < count) × All (λ pos. pos.0 < count) found.1.items

abbrev pub AreOthersBelow : ℕ → Answer (Vec Position Global) → Type 0
AreOthersBelow count (Unknown number) = ⊤
AreOthersBelow count (Known found) = All (λ pos. pos.0 < count) found.items

-- what is found of the ids after the first, of which the first has the number 2
abbrev pub AreOthersPlaces : (List ℕ → Option ℕ → Type 0) → List (List ℕ) → Answer (Vec Position Global) → Type 0
AreOthersPlaces Finds ids (Unknown number) =
    (place : ℕ) × (number ≡ place + 2) × All (FindsSome Finds) (take place ids)
    × ((id : List ℕ) × (slice_get ids place ≡ Some id) × Finds id None)
AreOthersPlaces Finds ids (Known found) = AllZip (FindsAt Finds) ids (numbers_of found.items)
