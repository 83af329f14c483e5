-- The numbers of parents, one after another.
use Rattle.std.proofs.Common.{◌≡◌, ℕ, ◌+◌, ◌<◌, List, [], ◌∷◌, ◌++◌, Some, slice_get}
use Rattle.std.proofs.Common.{All, Contains, sym, ap, subst, ⊎_elim, arith, length, map, take}
use Rattle.std.proofs.lemmas.List.Elements.{All-nil, All-push, All-weaker, Contains-append_left, Contains-push}
use Rattle.std.proofs.lemmas.List.Elements.{Contains-push_cases}
use Rattle.std.proofs.lemmas.List.{length-map}
use Rattle.std.proofs.lemmas.Option.{slice_get-get_or, slice_get_within}
use Rattle.std.specs.Prelude.{slice_index_or}
use Rattle.gix_hash_core.specs.declared.kind.Kind.{Kind}
use Rattle.commit_objects.specs.Object.{object_id_of}
use Rattle.graph_levels.specs.ParentLists.{commit_count, parent_list}
use Rattle.graph_levels.specs.declared.lists.ParentLists.{ParentLists}
use Rattle.commit_requests.specs.Placing.{AddsNumber, AreListsOf, AreNumbersIn}
use Rattle.commit_requests.proofs.ListSteps.{take_next}

pub numbers_none : (asked : List (List ℕ)) → AreNumbersIn asked [] []
numbers_none asked = record { each = All-nil _; every = All-nil _ }

module _ (asked seen : List (List ℕ)) (numbers : List ℕ) (are : AreNumbersIn asked seen numbers) (id : List ℕ) where
  abbrev IsNumberOf : List (List ℕ) → ℕ → Type 0
  IsNumberOf parents q = (p : List ℕ) × (slice_get asked q ≡ Some p) × Contains parents p

  abbrev HasNumber : List ℕ → List ℕ → Type 0
  HasNumber all p = Contains asked p → (q : ℕ) × Contains all q × (slice_get asked q ≡ Some p)

  each_still : All (IsNumberOf (seen ++ id ∷ [])) numbers
  each_still =
      All-weaker (IsNumberOf seen) (IsNumberOf (seen ++ id ∷ []))
      (λ q h. (h.0, h.1, Contains-append_left seen (id ∷ []) h.0 h.2)) numbers are.each

  with_one : (q : ℕ) → slice_get asked q ≡ Some id → AreNumbersIn asked (seen ++ id ∷ []) (numbers ++ q ∷ [])
  with_one q at = record {
    each = All-push (IsNumberOf (seen ++ id ∷ [])) numbers q each_still (id, at, Contains-push seen id);
    every = All-push (HasNumber (numbers ++ q ∷ [])) seen id
        (All-weaker (HasNumber numbers) (HasNumber (numbers ++ q ∷ []))
        (λ p h a. let found = h a in (found.0, Contains-append_left numbers (q ∷ []) found.0 found.1, found.2)) seen are.every)
        (λ a. (q, Contains-push numbers q, at));
  }

  with_none : ¬ Contains asked id → AreNumbersIn asked (seen ++ id ∷ []) numbers
  with_none absent = record {
    each = each_still;
    every = All-push (HasNumber numbers) seen id are.every (λ a. absurd (absent a));
  }

  pub numbers_step : (new : List ℕ) → AddsNumber asked numbers new id → AreNumbersIn asked (seen ++ id ∷ []) new
  numbers_step new adds =
      ⊎_elim
      (λ (one : (q : ℕ) × (slice_get asked q ≡ Some id) × (new ≡ numbers ++ q ∷ [])).
      subst (AreNumbersIn asked (seen ++ id ∷ [])) (sym one.2) (with_one one.0 one.1))
      (λ (none : (¬ Contains asked id) × (new ≡ numbers)).
      subst (AreNumbersIn asked (seen ++ id ∷ [])) (sym none.1) (with_none none.0))
      adds

-- the numbers of parents are numbers of commits that were read
pub lists_within : (kind : Kind) (asked read : List (List ℕ)) (lists : ParentLists) → asked ≡ map (object_id_of kind) read
    → AreListsOf kind asked read lists → (i : ℕ) → i < commit_count lists
    → All (λ q. q < commit_count lists) (parent_list lists i)
lists_within kind asked read lists own listed i lt =
    let bytes : List ℕ = slice_index_or read i [] in
    let at : slice_get read i ≡ Some bytes = slice_get-get_or read i [] (omega (arith, lt, listed.as_many)) in
    let has = listed.each i bytes at in
    All-weaker (λ (q : ℕ). (id : List ℕ) × (slice_get asked q ≡ Some id) × Contains has.0.parents id)
    (λ (q : ℕ). q < commit_count lists)
    (λ q h. omega (
      arith,
      slice_get_within asked q h.0 h.1,
      ap length own,
      length-map read (object_id_of kind),
      listed.as_many,
    ))
    (parent_list lists i) has.2.each

-- an id that stands at a place is not among the first
pub not_yet : (ids : List (List ℕ)) (number : ℕ) (id other : List ℕ) → slice_get ids number ≡ Some other → ¬ (other ≡ id)
    → ¬ Contains (take number ids) id → ¬ Contains (take (number + 1) ids) id
not_yet ids number id other at apart none contained =
    ⊎_elim
    (λ (early : Contains (take number ids) id). none early)
    (λ (same : other ≡ id). apart same)
    (Contains-push_cases (take number ids) other id
    (subst (λ (xs : List (List ℕ)). Contains xs id) (take_next ids number other at) contained))
