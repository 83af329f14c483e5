-- laws of the items that an iterator over parents gives
use Rattle.std.proofs.Common.{◌≡◌, ℕ, List, [], ◌∷◌, ◌++◌, map, length, Option, Some, None, Result, Ok, Err}
use Rattle.std.proofs.Common.{refl, ap, ◌∙◌}
use Rattle.std.proofs.lemmas.Iterator.{YieldsList}
use Rattle.std.proofs.lemmas.Iterator.Consumers.{YieldsList-from_shown}
use Rattle.graph_layer.specs.RemainingParents.{parents_left, GivesParent}
use Rattle.graph_layer.specs.declared.file.parents.Parents as Iter
use Rattle.graph_format.specs.Parents.{DecodedParents}
use Rattle.graph_format.specs.Parents.{fault_items, items_of}
use Rattle.graph_format.specs.declared.Position.{Position}
use Rattle.graph_format.specs.declared.parents.ParentError.{ParentError}

-- the positions among the items
abbrev pub numbers_of : List (Result Position ParentError) → List ℕ
numbers_of [] = []
numbers_of (Ok pos ∷ items) = pos.0 ∷ numbers_of items
numbers_of (Err error ∷ items) = numbers_of items

numbers-before : (positions : List Position) (fault : Option ParentError)
    → numbers_of (map (λ pos. Ok pos) positions ++ fault_items fault) ≡ map (λ pos. pos.0) positions
numbers-before [] None = refl
numbers-before [] (Some error) = refl
numbers-before (pos ∷ positions) fault = ap (λ (numbers : List ℕ). pos.0 ∷ numbers) (numbers-before positions fault)

-- they are the parents
pub numbers-parents : (parents : DecodedParents) → numbers_of (items_of parents) ≡ map (λ pos. pos.0) parents.positions
numbers-parents parents = numbers-before parents.positions parents.fault

pub numbers-taken : (left rest : List (Result Position ParentError)) (item : Result Position ParentError) (pos : Position)
    → left ≡ item ∷ rest → item ≡ Ok pos → numbers_of left ≡ pos.0 ∷ numbers_of rest
numbers-taken left rest item pos taken is = ap numbers_of taken
    ∙ ap (λ (first : Result Position ParentError). numbers_of (first ∷ rest)) is

-- what the trait's `next` gives, one after another, is what is left
pub parents-yield : (parents : Iter.Parents) → YieldsList GivesParent (λ item. item) parents (parents_left parents)
parents-yield parents =
    YieldsList-from_shown GivesParent (λ item. item) parents_left (λ s t h. ap length h.steps.0) (λ s item t h. h.steps) parents
