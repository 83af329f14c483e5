-- What is found of the commits with some ids.
use Rattle.std.specs.Prelude.{◌≡◌, ℕ, ◌+◌, List, [], ◌∷◌, All, Option, Some, None, Vec, option_map, slice_get, take}
use Rattle.std.specs.Global.{Global}
use Rattle.std.specs.List.{AllZip}
use Rattle.answers.specs.declared.answer.Answer.{Answer}
use Rattle.answers.specs.declared.answer.Answer.TheVariants.{Unknown, Known}
use Rattle.answers.specs.declared.comparison.IdComparison.{IdComparison}

-- an id is found at some position
abbrev pub FindsSome : (List ℕ → Option ℕ → Type 0) → List ℕ → Type 0
FindsSome Finds id = (p : ℕ) × Finds id (Some p)

-- an id is found at this position
abbrev pub FindsAt : (List ℕ → Option ℕ → Type 0) → List ℕ → ℕ → Type 0
FindsAt Finds id p = Finds id (Some p)

-- what may be found of ids by this search: the first of them that it does not find, by its number, which is 1 for the first id;
-- or what is so of the positions where it finds them
abbrev pub IsFoundOf : {A : Type 0} → (List ℕ → Option ℕ → Type 0) → (List ℕ → A → Type 0) → List (List ℕ) → Answer A → Type 0
IsFoundOf Finds IsSo ids (Unknown number) =
    (place : ℕ) × (number ≡ place + 1) × All (FindsSome Finds) (take place ids)
    × ((id : List ℕ) × (slice_get ids place ≡ Some id) × Finds id None)
IsFoundOf Finds IsSo ids (Known answer) =
    (positions : List ℕ) × AllZip (FindsAt Finds) ids positions × IsSo positions answer

-- what is so of one position, of two, or of a first and the others
abbrev pub OfOne : {A : Type 0} → (ℕ → A → Type 0) → List ℕ → A → Type 0
OfOne IsSo (p ∷ []) answer = IsSo p answer
OfOne IsSo positions answer = ⊥

abbrev pub OfTwo : {A : Type 0} → (ℕ → ℕ → A → Type 0) → List ℕ → A → Type 0
OfTwo IsSo (p ∷ q ∷ []) answer = IsSo p q answer
OfTwo IsSo positions answer = ⊥

abbrev pub OfFirst : {A : Type 0} → (ℕ → List ℕ → A → Type 0) → List ℕ → A → Type 0
OfFirst IsSo (first ∷ others) answer = IsSo first others answer
OfFirst IsSo [] answer = ⊥

-- the number of the first id that is missing, if one is
abbrev pub missing_in : {A : Type 0} → Answer A → Option ℕ
missing_in (Unknown number) = Some number
missing_in (Known answer) = None

-- the same of what is known
abbrev pub known_map : {A B : Type 0} → (A → B) → Answer A → Answer B
known_map f (Unknown number) = Unknown number
known_map f (Known answer) = Known (f answer)

-- ids in a list
abbrev pub listed_ids : Vec (List ℕ) Global → List (List ℕ)
listed_ids ids = ids.items

abbrev pub listed_walk : Option (Vec (List ℕ) Global) → Option (List (List ℕ))
listed_walk walk = option_map listed_ids walk

abbrev pub listed_comparison : IdComparison (Vec (List ℕ) Global) → IdComparison (List (List ℕ))
listed_comparison compared = record { comparison = compared.comparison; base_ids = compared.base_ids.items }
