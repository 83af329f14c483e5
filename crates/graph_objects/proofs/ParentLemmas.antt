-- How far the parents of a record and of a commit agree.
use Rattle.std.proofs.Common.{◌≡◌, ◌≢◌, ℕ, ◌+◌, List, [], ◌∷◌, ◌++◌, length, slice_get, refl, sym, ap, ◌∙◌, arith}
use Rattle.std.proofs.Common.{append_assoc, Option, Some, None}
use Rattle.std.specs.Prelude.{Result, option_map}
use Rattle.std.specs.Iterator.{YieldsFirst}
use Rattle.std.proofs.lemmas.List.{length-append}
use Rattle.std.proofs.Math.Seq.{take-append_seam}
use Rattle.graph_format.specs.declared.Position.{Position}
use Rattle.graph_format.specs.declared.parents.ParentError.{ParentError}
use Rattle.graph_layer.specs.RemainingParents.{parents_left}
use Rattle.graph_layer.specs.declared.file.parents.Parents.{Parents}
use Rattle.graph_objects.specs.Matching.{id_of_item, ids_of_items, each_known}
use Rattle.graph_objects.specs.Mismatches.{DifferFirstAt}

-- The parents that are left of the record and of the commit stand behind ones that agree.
pub record AreBehind (all left : List (Option (List ℕ))) (named more : List (List ℕ)) (index : ℕ) : Type 0 where
  pub front : List (Option (List ℕ))
  pub recorded : all ≡ front ++ left
  pub said : each_known named ≡ front ++ each_known more
  pub counted : length front ≡ index

pub at_first : (all : List (Option (List ℕ))) (named : List (List ℕ)) → AreBehind all all named named 0
at_first all named = record { front = []; recorded = refl; said = refl; counted = refl }

-- places behind what agrees
seam : {A : Type 0} (front xs : List A) → slice_get (front ++ xs) (length front) ≡ slice_get xs 0
seam [] xs = refl
seam (x ∷ front) xs = seam front xs

differ_behind : (front one other all others : List (Option (List ℕ))) (index : ℕ) → all ≡ front ++ one → others ≡ front ++ other
    → length front ≡ index → slice_get one 0 ≢ slice_get other 0 → DifferFirstAt all others index
differ_behind front one other all others index e f n differ =
    rw (e, f, sym n) (
      take-append_seam front one ∙ sym (take-append_seam front other),
      λ same. differ (sym (seam front one) ∙ same ∙ seam front other),
    )

-- one more parent agrees
pub one_more : (ids : List (List ℕ)) (all : List (Option (List ℕ))) (item : Result Position ParentError)
    (items : List (Result Position ParentError)) (named old new : List (List ℕ)) (index : ℕ) (id : List ℕ)
    → AreBehind all (ids_of_items ids (item ∷ items)) named old index → id_of_item ids item ≡ Some id → old ≡ id ∷ new
    → AreBehind all (ids_of_items ids items) named new (index + 1)
one_more ids all item items named old new index id behind same step = record {
  front = behind.front ++ (Some id ∷ []);
  recorded = behind.recorded ∙ ap (λ x. behind.front ++ (x ∷ ids_of_items ids items)) same
      ∙ sym (append_assoc behind.front (Some id ∷ []) (ids_of_items ids items));
  said = behind.said ∙ ap (λ l. behind.front ++ each_known l) step
      ∙ sym (append_assoc behind.front (Some id ∷ []) (each_known new));
  counted = omega (arith, length-append behind.front (Some id ∷ []), behind.counted);
}

-- one differs
pub one_differs : (all left : List (Option (List ℕ))) (named old new : List (List ℕ)) (index : ℕ) (id : List ℕ)
    → AreBehind all left named old index → slice_get left 0 ≢ Some (Some id) → old ≡ id ∷ new
    → DifferFirstAt all (each_known named) index
one_differs all left named old new index id behind differ step =
    differ_behind behind.front left (each_known old) all (each_known named) index behind.recorded behind.said behind.counted
    (λ same. differ (same ∙ ap (λ l. slice_get (each_known l) 0) step))

-- both have ended
pub both_end : (all left : List (Option (List ℕ))) (named old : List (List ℕ)) (index : ℕ) → AreBehind all left named old index
    → left ≡ [] → old ≡ [] → all ≡ each_known named
both_end all left named old index behind none ended =
    behind.recorded ∙ ap (λ l. behind.front ++ l) (none ∙ sym (ap each_known ended)) ∙ sym behind.said

-- the record has one more
pub one_left : (all left : List (Option (List ℕ))) (x : Option (List ℕ)) (named old : List (List ℕ)) (index : ℕ)
    → AreBehind all left named old index → slice_get left 0 ≡ Some x → old ≡ [] → DifferFirstAt all (each_known named) index
one_left all left x named old index behind there ended =
    differ_behind behind.front left (each_known old) all (each_known named) index behind.recorded behind.said behind.counted
    (λ same. cc (sym there ∙ same ∙ ap (λ l. slice_get (each_known l) 0) ended))

-- the first of the parents that are left
pub first_item : (ids : List (List ℕ)) (old new : Parents) (r : Option (Result Position ParentError))
    → YieldsFirst parents_left old r new → slice_get (ids_of_items ids (parents_left old)) 0 ≡ option_map (id_of_item ids) r
first_item ids old new None first = ap (λ l. slice_get (ids_of_items ids l) 0) first.0
first_item ids old new (Some item) first = ap (λ l. slice_get (ids_of_items ids l) 0) first

pub item_there : (ids : List (List ℕ)) (r : Option (Result Position ParentError)) (id : List ℕ)
    → option_map (id_of_item ids) r ≡ Some (Some id) → (item : Result Position ParentError) × (r ≡ Some item)
    × (id_of_item ids item ≡ Some id)
item_there ids None id e = cc e
item_there ids (Some item) id e = (item, refl, cc e)

pub fewer : (old new : Parents) (r : Option (Result Position ParentError)) (item : Result Position ParentError) → r ≡ Some item
    → YieldsFirst parents_left old r new → parents_left old ≡ item ∷ parents_left new
fewer old new None item e first = cc e
fewer old new (Some other) item e first = first ∙ ap (λ x. x ∷ parents_left new) (cc e)
