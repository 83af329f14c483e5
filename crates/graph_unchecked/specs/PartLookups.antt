-- For private contracts: which commits have some ids, in files of which parts are read.
use Rattle.std.specs.Prelude.{◌≡◌, ℕ, ◌+◌, ◌<◌, List, All, Vec, ⊤, None, Some, slice_get, take}
use Rattle.std.specs.Global.{Global}
use Rattle.std.specs.List.{AllZip}
use Rattle.graph_format.specs.Layer.{Layer}
use Rattle.graph_format.specs.declared.Position.{Position}
use Rattle.gix_commitgraph.specs.GraphLookup.{FoundIn}
use Rattle.commit_search.specs.Positions.{numbers_of}
use Rattle.graph_unchecked.specs.Unchecked.{IsFoundAt}
use Rattle.answers.specs.declared.answer.Answer.{Answer}
use Rattle.answers.specs.declared.answer.Answer.TheVariants.{Unknown, Known}

-- both positions, as numbers
abbrev pub AreBoth : List Layer → ℕ → ℕ → Position × Position → Type 0
AreBoth layers p q found = (p ≡ found.0.0) × (q ≡ found.1.0)

-- the first position and the others, as numbers
abbrev pub AreFirstAndOthers : List Layer → ℕ → List ℕ → Position × Vec Position Global → Type 0
AreFirstAndOthers layers first others found = (first ≡ found.0.0) × (others ≡ numbers_of found.1.items)

-- the positions of two ids are some of so many
abbrev pub AreBothWithin : ℕ → Answer (Position × Position) → Type 0
AreBothWithin count (Unknown number) = ⊤
AreBothWithin count (Known found) = (found.0.0 < count) × (found.1.0 < count)

-- so are those of an id and of the others
abbrev pub AreAllWithin : ℕ → Answer (Position × Vec Position Global) → Type 0
AreAllWithin count (Unknown number) = ⊤
AreAllWithin count (Known found) = (found.0.0 < count) × All (λ pos. pos.0 < count) found.1.items

-- and those of the others
abbrev pub AreOthersWithin : ℕ → Answer (Vec Position Global) → Type 0
AreOthersWithin count (Unknown number) = ⊤
AreOthersWithin count (Known found) = All (λ pos. pos.0 < count) found.items

-- what is found of the ids after the first, of which the first has the number 2
abbrev pub AreOthersFound : List Layer → List (List ℕ) → Answer (Vec Position Global) → Type 0
AreOthersFound layers ids (Unknown number) =
    (place : ℕ) × (number ≡ place + 2)
    × All (λ id. (p : ℕ) × IsFoundAt layers id p) (take place ids)
    × ((id : List ℕ) × (slice_get ids place ≡ Some id) × FoundIn layers id None)
AreOthersFound layers ids (Known found) = AllZip (IsFoundAt layers) ids (numbers_of found.items)
