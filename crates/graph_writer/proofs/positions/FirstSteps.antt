-- The first positions of ids, among those of the commits below and of the new ones.
use Rattle.std.proofs.Common.{◌≡◌, ℕ, ◌+◌, ◌-◌, ◌<◌, inl, inr, List, [], ◌∷◌, ◌++◌, map, length, slice_get, Option, Some}
use Rattle.std.proofs.Common.{None, refl, sym, ap, ◌∙◌, subst, arith}
use Rattle.std.specs.Prelude.{IfSome}
use Rattle.std.proofs.lemmas.List.{length-map}
use Rattle.std.proofs.lemmas.Option.{slice_get_within, none-some}
use Rattle.gix_chunk_core.specs.FirstFault.{first_below}
use Rattle.gix_chunk_core.proofs.FirstFaultLemmas.{first_below-none_at}
use Rattle.gix_commitgraph.specs.Graph.{graph_ids, total}
use Rattle.gix_commitgraph.proofs.layers.GraphLemmas.{counted}
use Rattle.gix_commitgraph.proofs.layers.LayerListLemmas.{get-front}
use Rattle.graph_format.specs.Layer.{Layer}
use Rattle.graph_format.specs.Lookup.{scan}
use Rattle.graph_format.specs.LookupLaw.{IsFirst}
use Rattle.graph_format.specs.Order.{AreAscending}
use Rattle.graph_format.proofs.ScanLemmas.{scan-first, scan-found}
use Rattle.graph_writer.specs.NewCommits.{new_ids, HoldIds, AreFirst}
use Rattle.graph_writer.specs.NewLayers.{ids_in_order}
use Rattle.graph_writer.specs.SortedPlaces.{IsOrder}
use Rattle.graph_writer.specs.WriteRefusal.{below_at}
use Rattle.graph_writer.specs.declared.commit.NewCommit.{NewCommit}
use Rattle.graph_writer.proofs.positions.DistinctSteps.{ascending-once, split}
use Rattle.graph_writer.proofs.positions.KnownSteps.{get-back}
use Rattle.graph_writer.proofs.positions.NewIdSteps.{below-from, scan-holds, scan-misses}
use Rattle.graph_writer.proofs.positions.SearchSteps.{number-at}

-- no position before the first holds the id
pub none-before : (ids : List (List ℕ)) (id : List ℕ) (p : ℕ) → scan ids id ≡ Some p → (i : ℕ) → i < p
    → slice_get ids i ≡ Some id → ⊥
none-before ids id p is = (subst (IsFirst ids id) is (scan-first ids id)).1

-- what is found in a list is found where others follow it
pub scan-front : (xs ys : List (List ℕ)) (id : List ℕ) (p : ℕ) → scan xs id ≡ Some p → scan (xs ++ ys) id ≡ Some p
scan-front xs ys id p is =
    let here = scan-holds xs id p is in
    let within = slice_get_within xs p id here in
    scan-found (xs ++ ys) id p (get-front xs ys p within ∙ here)
    (λ i before at. none-before xs id p is i before (sym (get-front xs ys i (omega (arith, before, within))) ∙ at))

-- what is missing there is found among the others
pub scan-back : (xs ys : List (List ℕ)) (id : List ℕ) (p : ℕ) → scan xs id ≡ None → AreAscending ys → slice_get ys p ≡ Some id
    → scan (xs ++ ys) id ≡ Some (length xs + p)
scan-back xs ys id p none ascending here =
    scan-found (xs ++ ys) id (length xs + p) (get-back xs ys p ∙ here)
    (λ i before at.
    elim (split xs ys i id at) [
      | inl low ↦ scan-misses xs id i none low.1
      | inr high ↦
          let same = ascending-once ys ascending (i - length xs) p id high.1 here in
          absurd (omega (arith, same, high.0, before))
    ])

-- the first positions of ids hold them
pub first-hold : (all : List (List ℕ)) (positions : List ℕ) (ids : List (List ℕ)) → AreFirst all positions ids
    → HoldIds all positions ids
first-hold all [] [] is = refl
first-hold all [] (id ∷ ids) is = cc
first-hold all (p ∷ positions) [] is = cc
first-hold all (p ∷ positions) (id ∷ ids) is =
    let first : scan all id ≡ Some p = cc in
    let rest : map (λ (q : ℕ). Some q) positions ≡ map (scan all) ids = cc in
    ap (λ (o : Option (List ℕ)). o ∷ map (slice_get all) positions) (scan-holds all id p first)
    ∙ ap (λ (os : List (Option (List ℕ))). Some id ∷ os) (first-hold all positions ids rest)

-- no commit has the id of one below
pub fresh-at : (below : List (List ℕ)) (commits : List NewCommit) → first_below (below_at below commits) (length commits) ≡ None
    → (i : ℕ) (id : List ℕ) → slice_get (new_ids commits) i ≡ Some id → scan below id ≡ None
fresh-at below commits fresh i id here =
    by-cases (scan below id) refl
  where
    within : i < length commits
    within = omega (arith, slice_get_within (new_ids commits) i id here, length-map commits (λ (c : NewCommit). c.id))

    by-cases : (answer : Option ℕ) → scan below id ≡ answer → scan below id ≡ None
    by-cases None is = is
    by-cases (Some p) is =
        let missing = first_below-none_at (below_at below commits) i (length commits) fresh within in
        absurd (none-some _ (sym missing ∙ below-from below commits i id (Some p) here is))

-- a new commit stands after those below, and none of them has its id
pub new-first : (layers : List Layer) (commits : List NewCommit) (order : List ℕ) (start place : ℕ) (id : List ℕ)
    → start ≡ total layers → IsOrder commits order → first_below (below_at (graph_ids layers) commits) (length commits) ≡ None
    → slice_get (ids_in_order commits order) place ≡ Some id
    → scan (graph_ids layers ++ ids_in_order commits order) id ≡ Some (start + place)
new-first layers commits order start place id is ordered fresh here =
    let at = number-at commits order ordered place id here in
    scan-back (graph_ids layers) (ids_in_order commits order) id place (fresh-at (graph_ids layers) commits fresh at.0 id at.1)
    ordered.ascending here
    ∙ ap (λ (n : ℕ). Some (n + place)) ((counted layers).ids ∙ sym is)

-- one below is first
pub below-first : (layers : List Layer) (sorted : List (List ℕ)) (id : List ℕ) (answer : Option ℕ)
    → answer ≡ scan (graph_ids layers) id → IfSome answer (λ p. scan (graph_ids layers ++ sorted) id ≡ Some p)
below-first layers sorted id None is = tt
below-first layers sorted id (Some p) is = scan-front (graph_ids layers) sorted id p (sym is)
