-- Where no id stands at two positions, what is said of ids is said of their positions.
use Rattle.std.proofs.Common.{◌≡◌, ℕ, zero, suc, ◌-◌, ◌<◌, List, [], ◌∷◌, All, Contains, Option, Some, None, length, map}
use Rattle.std.proofs.Common.{slice_get, slice_index_or, refl, sym, ap, subst, ◌∙◌, arith}
use Rattle.std.specs.Prelude.{◌↔◌}
use Rattle.std.specs.Option.{option_map}
use Rattle.std.proofs.lemmas.List.{length-map}
use Rattle.std.proofs.lemmas.List.Elements.{All-contains, Contains-get_or}
use Rattle.std.proofs.lemmas.Option.{slice_get-map, slice_get-get_or, get_or_from_slice_get, slice_get_within}
use Rattle.graph_walks.specs.History.{Node}
use Rattle.graph_walks.specs.Walks.{IsWalk, IsWalkBetween, Reaches, IsProperAncestor}
use Rattle.graph_format.specs.Layer.{Layer}
use Rattle.graph_format.specs.StoredHistory.{history_of}
use Rattle.gix_commitgraph.specs.Distinct.{AreDistinct}
use Rattle.gix_commitgraph.specs.Graph.{graph_ids}
use Rattle.gix_commitgraph.specs.IdWalks.{IsIdWalk, ids_at}
use Rattle.commit_search.specs.WalkAnswer.{IsShortestWalk}
use Rattle.graph_bases.specs.Bases.{IsCommonAncestor, IsMergeBase, IsReachedFromSome}
use Rattle.graph_history.specs.IdAncestors.{IsIdWalkBetween, IsShortestIdWalk, LeadsTo, LeadsDownTo, SomeLeadsTo, IsSharedId}
use Rattle.graph_history.specs.IdAncestors.{IsMergeBaseId}
use Rattle.graph_bases.proofs.ReachLemmas.{reaches_within}

-- each commit of a walk is one of the history
walk_within : (h : List Node) (walk : List ℕ) (k x : ℕ) → IsWalk h walk → slice_get walk k ≡ Some x → x < length h
walk_within h [] k x w at = absurd w
walk_within h (p ∷ []) zero x w at = let same : p ≡ x = cc in subst (λ (n : ℕ). n < length h) same w
walk_within h (p ∷ []) (suc k) x w at = absurd (let none : None ≡ Some x = at in cc)
walk_within h (p ∷ q ∷ rest) zero x w at = let same : p ≡ x = cc in subst (λ (n : ℕ). n < length h) same w.0.0
walk_within h (p ∷ q ∷ rest) (suc k) x w at = walk_within h (q ∷ rest) k x w.1 at

contains-map : {B : Type 0} (f : ℕ → B) (xs : List ℕ) (x : ℕ) → Contains xs x → Contains (map f xs) (f x)
contains-map f xs x (k, lt, at) =
    let there : slice_get xs k ≡ Some x = slice_get-get_or xs k x lt ∙ ap (λ (y : ℕ). Some y) at in
    let mapped : slice_get (map f xs) k ≡ Some (f x) = slice_get-map f xs k ∙ ap (option_map f) there in
    (k, omega (arith, length-map xs f), get_or_from_slice_get (map f xs) k (f x) (f x) mapped)

contained_of-map : {B : Type 0} (f : ℕ → B) (xs : List ℕ) (y : B) → Contains (map f xs) y → (x : ℕ) × Contains xs x × (f x ≡ y)
contained_of-map f xs y (k, lt, at) =
    let within : k < length xs = omega (arith, length-map xs f) in
    let x = slice_index_or xs k 0 in
    let mapped : slice_get (map f xs) k ≡ Some (f x) =
    slice_get-map f xs k ∙ ap (option_map f) (slice_get-get_or xs k 0 within) in
    (x, Contains-get_or xs k 0 within, sym (get_or_from_slice_get (map f xs) k (f x) y mapped) ∙ at)

module _ (layers : List Layer) (distinct : AreDistinct layers)
    (as_many : length (graph_ids layers) ≡ length (history_of layers))
    (walked : (ids : List (List ℕ))
    → IsIdWalk layers ids ↔ ((walk : List ℕ) × IsWalk (history_of layers) walk × (ids_at layers walk ≡ ids))) where
  abbrev h : List Node
  h = history_of layers

  abbrev id_at : ℕ → List ℕ
  id_at p = slice_index_or (graph_ids layers) p []

  holds : (p : ℕ) → p < length h → slice_get (graph_ids layers) p ≡ Some (id_at p)
  holds p lt = slice_get-get_or (graph_ids layers) p [] (omega (arith, as_many, lt))

  within : (p : ℕ) (id : List ℕ) → slice_get (graph_ids layers) p ≡ Some id → p < length h
  within p id here = omega (arith, as_many, slice_get_within (graph_ids layers) p id here)

  -- the id at a place of a walk
  id_of : (walk : List ℕ) (k p : ℕ) (id : List ℕ) → slice_get walk k ≡ Some p → slice_get (graph_ids layers) p ≡ Some id
      → slice_get (ids_at layers walk) k ≡ Some id
  id_of walk k p id at here =
      slice_get-map id_at walk k ∙ ap (option_map id_at) at
      ∙ ap (λ (i : List ℕ). Some i) (get_or_from_slice_get (graph_ids layers) p id [] here)

  -- the position at that place
  position_of : (walk : List ℕ) (k : ℕ) (id : List ℕ) → IsWalk h walk → slice_get (ids_at layers walk) k ≡ Some id
      → (p : ℕ) × (slice_get walk k ≡ Some p) × (slice_get (graph_ids layers) p ≡ Some id)
  position_of walk k id w at = by_cases (slice_get walk k) refl (sym (slice_get-map id_at walk k) ∙ at) where
    by_cases : (found : Option ℕ) → slice_get walk k ≡ found → option_map id_at found ≡ Some id
        → (p : ℕ) × (slice_get walk k ≡ Some p) × (slice_get (graph_ids layers) p ≡ Some id)
    by_cases None is mapped = absurd (let none : None ≡ Some id = mapped in cc)
    by_cases (Some p) is mapped = (p, is, holds p (walk_within h walk k p w is) ∙ mapped)

  position_at : (walk : List ℕ) (k p : ℕ) (id : List ℕ) → IsWalk h walk → slice_get (graph_ids layers) p ≡ Some id
      → slice_get (ids_at layers walk) k ≡ Some id → slice_get walk k ≡ Some p
  position_at walk k p id w here at =
      let found = position_of walk k id w at in
      found.1 ∙ ap (λ (q : ℕ). Some q) (distinct found.0 p id found.2 here)

  module _ (p q : ℕ) (from to : List ℕ) (begins : slice_get (graph_ids layers) p ≡ Some from)
      (ends : slice_get (graph_ids layers) q ≡ Some to) where
    to_ids : (walk : List ℕ) → IsWalkBetween h p q walk → IsIdWalkBetween layers from to (ids_at layers walk)
    to_ids walk b = record {
      is_walk = (walked (ids_at layers walk)).1 (walk, b.is_walk, refl);
      first = id_of walk 0 p from b.first begins;
      last =
          ap (λ (n : ℕ). slice_get (ids_at layers walk) (n - 1)) (length-map walk id_at)
          ∙ id_of walk (length walk - 1) q to b.last ends;
    }

    of_ids : (ids : List (List ℕ)) → IsIdWalkBetween layers from to ids
        → (walk : List ℕ) × IsWalkBetween h p q walk × (length walk ≡ length ids)
    of_ids ids b =
        let found = (walked ids).0 b.is_walk in
        let walk = found.0 in
        let long : length walk ≡ length ids = sym (length-map walk id_at) ∙ ap (λ (is : List (List ℕ)). length is) found.2 in
        let last : slice_get (ids_at layers walk) (length walk - 1) ≡ Some to =
        ap (λ (is : List (List ℕ)). slice_get is (length walk - 1)) found.2
        ∙ ap (λ (n : ℕ). slice_get ids (n - 1)) long
        ∙ b.last in (
          walk,
          record {
            is_walk = found.1;
            first = position_at walk 0 p from found.1 begins (ap (λ (is : List (List ℕ)). slice_get is 0) found.2 ∙ b.first);
            last = position_at walk (length walk - 1) q to found.1 ends last;
          },
          long,
        )

    leads : Reaches h p q → LeadsTo layers from to
    leads reaches = (ids_at layers reaches.0, to_ids reaches.0 reaches.1)

    led : LeadsTo layers from to → Reaches h p q
    led leads_to = let found = of_ids leads_to.0 leads_to.1 in (found.0, found.1)

    leads_down : IsProperAncestor h p q → LeadsDownTo layers from to
    leads_down proper =
        (ids_at layers proper.0, to_ids proper.0 proper.1, omega (arith, proper.2, length-map proper.0 id_at))

    led_down : LeadsDownTo layers from to → IsProperAncestor h p q
    led_down down = let found = of_ids down.0 down.1 in (found.0, found.1, omega (arith, found.2, down.2))

    pub reaches_by_ids : Reaches h p q ↔ LeadsTo layers from to
    reaches_by_ids = (leads, led)

    pub shortest_by_ids : (walk : List ℕ) → IsShortestWalk h p q walk → IsShortestIdWalk layers from to (ids_at layers walk)
    shortest_by_ids walk shortest = record {
      between = to_ids walk shortest.between;
      least = λ other b.
          let found = of_ids other b in
          omega (arith, length-map walk id_at, found.2, shortest.least found.0 found.1);
    }

  -- an id to which one leads stands at a position
  end_of : (from to : List ℕ) → LeadsTo layers from to → (q : ℕ) × (slice_get (graph_ids layers) q ≡ Some to)
  end_of from to leads_to =
      let b = leads_to.1 in
      let found = (walked leads_to.0).0 b.is_walk in
      let at : slice_get (ids_at layers found.0) (length leads_to.0 - 1) ≡ Some to =
      ap (λ (is : List (List ℕ)). slice_get is (length leads_to.0 - 1)) found.2 ∙ b.last in
      let place = position_of found.0 (length leads_to.0 - 1) to found.1 at in
      (place.0, place.2)

  module _ (first : ℕ) (others : List ℕ) (first_id : List ℕ) (begins : slice_get (graph_ids layers) first ≡ Some first_id)
      (all : All (λ other. other < length h) others) where
    shared : (p : ℕ) (id : List ℕ) → slice_get (graph_ids layers) p ≡ Some id → IsCommonAncestor h first others p
        → IsSharedId layers first_id (ids_at layers others) id
    shared p id here common =
        let some : IsReachedFromSome h others p = common.1 in
        let s = some.0 in
        let lt = All-contains (λ other. other < length h) others s all some.1 in (
          leads first p first_id id begins here common.0,
          (id_at s, contains-map id_at others s some.1, leads s p (id_at s) id (holds s lt) here some.2),
        )

    common : (p : ℕ) (id : List ℕ) → slice_get (graph_ids layers) p ≡ Some id
        → IsSharedId layers first_id (ids_at layers others) id → IsCommonAncestor h first others p
    common p id here is =
        let some : SomeLeadsTo layers (ids_at layers others) id = is.1 in
        let found = contained_of-map id_at others some.0 some.1 in
        let s = found.0 in
        let lt = All-contains (λ other. other < length h) others s all found.1 in
        let holds_it : slice_get (graph_ids layers) s ≡ Some some.0 = holds s lt ∙ ap (λ (i : List ℕ). Some i) found.2 in
        (led first p first_id id begins here is.0, (s, found.1, led s p some.0 id holds_it here some.2))

    pub base_by_ids : (p : ℕ) (id : List ℕ) → slice_get (graph_ids layers) p ≡ Some id
        → IsMergeBase h first others p ↔ IsMergeBaseId layers first_id (ids_at layers others) id
    base_by_ids p id here = (
      (λ base. record {
        shared = shared p id here base.common;
        best = λ lower is down.
            let place = end_of first_id lower is.0 in
            base.best place.0 (common place.0 lower place.1 is) (led_down place.0 p lower id place.1 here down);
      }),
      (λ base. record {
        common = common p id here base.shared;
        best = λ q is proper.
            let lt = reaches_within h first q is.0 in
            base.best (id_at q) (shared q (id_at q) (holds q lt) is) (leads_down q p (id_at q) id (holds q lt) here proper);
      }),
    )
