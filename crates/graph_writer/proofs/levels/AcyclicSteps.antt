-- Where no new commit lies on a cycle by its position, no commit does by the ids that commits name.
use Rattle.std.proofs.Common.{◌≡◌, ℕ, suc, ◌+◌, ◌-◌, ◌<◌, ◌≤◌, List, [], ◌∷◌, ◌++◌, length, Contains, slice_get}
use Rattle.std.proofs.Common.{get_or, Option, Some, None, option_map, refl, sym, ap, ◌∙◌, subst, ⊎_elim, arith}
use Rattle.std.proofs.lemmas.Bool.{cases_lt}
use Rattle.std.proofs.lemmas.Option.{slice_get_within, slice_get-map, slice_get-get_or, get_or_from_slice_get, same_Some}
use Rattle.std.proofs.lemmas.Option.{none-some}
use Rattle.graph_walks.specs.History.{Node, IsParent, parents_at}
use Rattle.graph_walks.proofs.WalkPathLemmas.{Path, between_from_path}
use Rattle.graph_format.specs.Layer.{Layer}
use Rattle.gix_commitgraph.specs.Graph.{graph_ids, total}
use Rattle.gix_commitgraph.proofs.layers.GraphLemmas.{counted}
use Rattle.gix_commitgraph.proofs.layers.LayerListLemmas.{get-front}
use Rattle.gix_commitgraph.proofs.lookup.ElementLemmas.{some-place}
use Rattle.graph_levels.specs.OnTop.{HasOnTop, AreClosedBelow, HasNoCycleOnTop}
use Rattle.graph_levels.specs.ParentLists.{parent_list}
use Rattle.graph_writer.specs.Cycles.{NamesCommit, IsNewWalk, HaveNoCycle}
use Rattle.graph_writer.specs.NewCommits.{new_ids, HoldIds}
use Rattle.graph_writer.specs.NewLayers.{IsNewLayer, ids_in_order}
use Rattle.graph_writer.specs.WriteRefusal.{new_layer_refusal}
use Rattle.graph_writer.specs.declared.commit.NewCommit.{NewCommit}
use Rattle.graph_writer.specs.declared.new_layer.NewLayer.{NewLayer}
use Rattle.graph_writer.proofs.layers.AcceptedSteps.{scanned-none}
use Rattle.graph_writer.proofs.levels.CycleSteps.{root-parents, base, plain, parents-of-new, size-plain, plain-on-top}
use Rattle.graph_writer.proofs.levels.CycleSteps.{id-at-position}
use Rattle.graph_writer.proofs.positions.DistinctSteps.{ascending-once}
use Rattle.graph_writer.proofs.positions.FirstSteps.{first-hold}
use Rattle.graph_writer.proofs.positions.NewIdSteps.{scan-misses}

-- a position whose id is known, among positions that hold these ids
held : (all : List (List ℕ)) (positions : List ℕ) (ids : List (List ℕ)) (k : ℕ) (id : List ℕ) → HoldIds all positions ids
    → slice_get ids k ≡ Some id → (q : ℕ) × (slice_get positions k ≡ Some q) × (slice_get all q ≡ Some id)
held all positions ids k id hold here =
    by-cases (slice_get positions k) refl
  where
    told : option_map (slice_get all) (slice_get positions k) ≡ Some (Some id)
    told =
        sym (slice_get-map (slice_get all) positions k)
        ∙ ap (λ (os : List (Option (List ℕ))). slice_get os k) hold
        ∙ slice_get-map (λ (x : List ℕ). Some x) ids k
        ∙ ap (option_map (λ (x : List ℕ). Some x)) here

    by-cases : (o : Option ℕ) → slice_get positions k ≡ o
        → (q : ℕ) × (slice_get positions k ≡ Some q) × (slice_get all q ≡ Some id)
    by-cases None is =
        absurd (none-some (Some id) (sym (ap (option_map (slice_get all)) is) ∙ told))
    by-cases (Some q) is =
        (q, is, same_Some (slice_get all q) (Some id) (sym (ap (option_map (slice_get all)) is) ∙ told))

module _ (layers : List Layer) (commits : List NewCommit) (new : NewLayer) (is_new : IsNewLayer layers commits new)
    (none : new_layer_refusal layers commits ≡ None) where
  abbrev start_on_top : ℕ
  start_on_top = base layers commits new is_new

  abbrev history : List Node
  history = plain layers commits new is_new

  abbrev sorted : List (List ℕ)
  sorted = ids_in_order commits new.order.items

  -- the place of the commit of a number
  place-of : (i : ℕ) → i < length commits → (p : ℕ) × (slice_get new.order.items p ≡ Some i)
  place-of i lt =
      let found = is_new.all i lt in
      (found.0, slice_get-get_or new.order.items found.0 i found.1 ∙ ap (λ (n : ℕ). Some n) found.2)

  place-within : (p i : ℕ) → slice_get new.order.items p ≡ Some i → p < length commits
  place-within p i at = omega (arith, slice_get_within new.order.items p i at, is_new.as_many)

  id-of-place : (p i : ℕ) (commit : NewCommit) → slice_get new.order.items p ≡ Some i → slice_get commits i ≡ Some commit
      → slice_get sorted p ≡ Some commit.id
  id-of-place p i commit at here =
      slice_get-map (λ (n : ℕ). get_or (new_ids commits) n []) new.order.items p
      ∙ ap (option_map (λ (n : ℕ). get_or (new_ids commits) n [])) at
      ∙ ap (λ (x : List ℕ). Some x)
      (get_or_from_slice_get (new_ids commits) i commit.id []
      (slice_get-map (λ (c : NewCommit). c.id) commits i ∙ ap (option_map (λ (c : NewCommit). c.id)) here))

  -- a commit has one place
  one-place : (p q i : ℕ) (commit : NewCommit) → slice_get commits i ≡ Some commit → slice_get new.order.items p ≡ Some i
      → slice_get new.order.items q ≡ Some i → p ≡ q
  one-place p q i commit here at_p at_q =
      ascending-once sorted is_new.ascending p q commit.id (id-of-place p i commit at_p here) (id-of-place q i commit at_q here)

  -- a commit that is named by its id is a parent by its position
  parent-on-top : (i j p q : ℕ) → NamesCommit commits i j → slice_get new.order.items p ≡ Some i
      → slice_get new.order.items q ≡ Some j → IsParent history (start_on_top + p) (start_on_top + q)
  parent-on-top i j p q names at_p at_q =
      let k : ℕ = names.named.0 in
      let inside_p = place-within p i at_p in
      let inside_q = place-within q j at_q in
      let size = size-plain layers commits new is_new in
      let id : slice_get names.child.parents.items k ≡ Some names.parent.id =
      slice_get-get_or names.child.parents.items k names.parent.id names.named.1
      ∙ ap (λ (x : List ℕ). Some x) names.named.2 in
      let found =
      held (graph_ids layers ++ sorted) (parent_list new.parents p) names.child.parents.items k names.parent.id
      (first-hold _ _ _ (is_new.parents p i names.child at_p names.at_child)) id in
      let r : ℕ = found.0 in
      let above : start_on_top ≤ r =
      ⊎_elim
      (λ (lower : r < start_on_top).
      let front : r < length (graph_ids layers) = omega (arith, lower, (counted layers).ids) in
      absurd
      (scan-misses (graph_ids layers) names.parent.id r (scanned-none layers commits none j names.parent names.at_parent)
      (sym (get-front (graph_ids layers) sorted r front) ∙ found.2)))
      (λ (le : start_on_top ≤ r). le)
      (cases_lt r start_on_top) in
      let same : r - start_on_top ≡ q =
      ascending-once sorted is_new.ascending (r - start_on_top) q names.parent.id
      (sym (id-at-position layers commits new is_new r above) ∙ found.2)
      (id-of-place q j names.parent at_q names.at_parent) in
      let number : r ≡ start_on_top + q = omega (arith, same, above) in
      let listed : slice_get (parent_list new.parents p) k ≡ Some (start_on_top + q) =
      found.1 ∙ ap (λ (n : ℕ). Some n) number in
      let contains : Contains (parent_list new.parents p) (start_on_top + q) = (
        k,
        slice_get_within (parent_list new.parents p) k (start_on_top + q) listed,
        get_or_from_slice_get (parent_list new.parents p) k (start_on_top + q) (start_on_top + q) listed,
      ) in (
        omega (arith, inside_p, size),
        omega (arith, inside_q, size),
        subst (λ (ps : List ℕ). Contains ps (start_on_top + q)) (sym (parents-of-new layers commits new is_new p inside_p))
            contains,
      )

  -- a walk along ids is one along positions
  climbs : (i : ℕ) (rest : List ℕ) (x p : ℕ) → IsNewWalk commits (i ∷ rest) → slice_get (i ∷ rest) (length rest) ≡ Some x
      → slice_get new.order.items p ≡ Some i
      → (q : ℕ) × (steps : List ℕ) × (slice_get new.order.items q ≡ Some x)
      × Path history (start_on_top + p) (start_on_top + q) steps × (length steps ≡ length rest)
  climbs i [] x p walk last at = (
    p,
    [],
    at ∙ last,
    (refl, omega (arith, place-within p i at, size-plain layers commits new is_new)),
    refl,
  )
  climbs i (j ∷ rest) x p walk last at =
      let names : NamesCommit commits i j = walk.0 in
      let next = place-of j (slice_get_within commits j names.parent names.at_parent) in
      let more = climbs j rest x next.0 walk.1 last next.1 in (
        more.0,
        (start_on_top + next.0) ∷ more.1,
        more.2,
        (parent-on-top i j p next.0 names at next.1, more.3),
        ap (λ (n : ℕ). suc n) more.4,
      )

  closed : AreClosedBelow history start_on_top
  closed p lt =
      let empty : parents_at history p ≡ [] = root-parents start_on_top _ p lt in
      λ k d inside. absurd (omega (arith, inside, ap length empty))

  module _ (top : HasNoCycleOnTop history start_on_top) where
    none-from : (i : ℕ) (walk : List ℕ) → IsNewWalk commits walk → slice_get walk 0 ≡ Some i
        → slice_get walk (length walk - 1) ≡ Some i → 2 ≤ length walk → ⊥
    none-from i [] walk first last long = walk
    none-from i (h ∷ rest) walk first last long =
        let same : h ≡ i = same_Some h i first in
        let within : h < length commits = head-within h rest walk in
        let place = place-of h within in
        let ends : slice_get (h ∷ rest) (length rest) ≡ Some h =
        ap (slice_get (h ∷ rest)) (omega arith) ∙ last ∙ ap (λ (n : ℕ). Some n) (sym same) in
        let found = climbs h rest h place.0 walk ends place.1 in
        let here = some-place commits h within in
        let back : place.0 ≡ found.0 = one-place place.0 found.0 h here.0 here.1 place.1 found.2 in
        let path : Path history (start_on_top + place.0) (start_on_top + place.0) found.1 =
        subst (λ (n : ℕ). Path history (start_on_top + place.0) (start_on_top + n) found.1) (sym back) found.3 in
        top (start_on_top + place.0) (omega arith)
        ((start_on_top + place.0) ∷ found.1, between_from_path history _ _ found.1 path, omega (arith, found.4, long))
      where
        head-within : (h : ℕ) (rest : List ℕ) → IsNewWalk commits (h ∷ rest) → h < length commits
        head-within h [] walk = walk
        head-within h (j ∷ rest) walk = slice_get_within commits h walk.0.child walk.0.at_child

    pub no-cycle : HaveNoCycle commits
    no-cycle i own = none-from i own.walk own.is_walk own.first own.last own.long

  -- so the levels of the commits leave no cycle
  pub acyclic : ((h : List Node) → HasOnTop h (total layers) new.parents → AreClosedBelow h (total layers)
      → HasNoCycleOnTop h (total layers)) → HaveNoCycle commits
  acyclic levels = no-cycle (levels history (plain-on-top layers commits new is_new) closed)
