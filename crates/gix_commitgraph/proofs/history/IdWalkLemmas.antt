-- Where no id stands at two positions, walks over positions are walks over ids.
use Rattle.std.proofs.Common.{◌≡◌, ℕ, ◌<◌, List, [], ◌∷◌, length, slice_get, slice_index_or, get_or, All, Some, ap, subst}
use Rattle.std.proofs.Common.{◌∙◌, arith}
use Rattle.std.specs.Prelude.{◌↔◌}
use Rattle.std.proofs.lemmas.Option.{slice_get_within, slice_get-get_or, get_or_from_slice_get}
use Rattle.graph_walks.specs.History.{Node, IsParent}
use Rattle.graph_walks.specs.Walks.{IsWalk}
use Rattle.graph_format.specs.Layer.{Layer, IsOpened}
use Rattle.graph_format.specs.StoredHistory.{history_of}
use Rattle.gix_commitgraph.specs.Distinct.{AreDistinct}
use Rattle.gix_commitgraph.specs.Graph.{graph_ids}
use Rattle.gix_commitgraph.specs.IdWalks.{IsParentId, IsIdWalk, ids_at}
use Rattle.gix_commitgraph.proofs.layers.GraphLemmas.{counted}
use Rattle.gix_commitgraph.proofs.history.HistoryLemmas.{length-history}

-- a walk begins with a commit of the history
first-within : (h : List Node) (p : ℕ) (rest : List ℕ) → IsWalk h (p ∷ rest) → p < length h
first-within h p [] walk = walk
first-within h p (q ∷ rest) walk = walk.0.0

module _ (layers : List Layer) (opened : All IsOpened layers) where
  -- each commit has an id
  id-at : (p : ℕ) → p < length (history_of layers)
      → slice_get (graph_ids layers) p ≡ Some (slice_index_or (graph_ids layers) p [])
  id-at p within =
      slice_get-get_or (graph_ids layers) p [] (omega (arith, length-history layers opened, (counted layers).ids))

  within-history : (p : ℕ) (id : List ℕ) → slice_get (graph_ids layers) p ≡ Some id → p < length (history_of layers)
  within-history p id here =
      omega (
        arith,
        slice_get_within (graph_ids layers) p id here,
        length-history layers opened,
        (counted layers).ids,
      )

  ids-of_walk : (walk : List ℕ) → IsWalk (history_of layers) walk → IsIdWalk layers (ids_at layers walk)
  ids-of_walk [] walk = absurd walk
  ids-of_walk (p ∷ []) walk = (p, id-at p walk)
  ids-of_walk (p ∷ q ∷ rest) walk = ((p, q, id-at p walk.0.0, id-at q walk.0.1, walk.0), ids-of_walk (q ∷ rest) walk.1)

  -- a walk by the ids of its commits
  abbrev WalksOver : List (List ℕ) → Type 0
  WalksOver ids = (walk : List ℕ) × IsWalk (history_of layers) walk × (ids_at layers walk ≡ ids)

  -- one commit more, whose parent has the id with which a walk begins
  walk-more : AreDistinct layers → (id next : List ℕ) (rest : List (List ℕ)) → IsParentId layers id next → (walk : List ℕ)
      → IsWalk (history_of layers) walk → ids_at layers walk ≡ next ∷ rest → WalksOver (id ∷ next ∷ rest)
  walk-more distinct id next rest step [] walk same = absurd walk
  walk-more distinct id next rest step (q ∷ more) walk same =
      let h = history_of layers in
      let holds : slice_get (graph_ids layers) q ≡ Some next =
      id-at q (first-within h q more walk) ∙ ap (λ (ids : List (List ℕ)). Some (get_or ids 0 [])) same in
      let parent : IsParent h step.0 q = subst (λ (p : ℕ). IsParent h step.0 p) (distinct step.1 q next step.3 holds) step.4 in
      let here : slice_index_or (graph_ids layers) step.0 [] ≡ id =
      get_or_from_slice_get (graph_ids layers) step.0 id [] step.2 in (
        step.0 ∷ q ∷ more,
        (parent, walk),
        ap (λ (i : List ℕ). i ∷ ids_at layers (q ∷ more)) here ∙ ap (λ (ids : List (List ℕ)). id ∷ ids) same,
      )

  walk-of_ids : AreDistinct layers → (ids : List (List ℕ)) → IsIdWalk layers ids → WalksOver ids
  walk-of_ids distinct [] walk = absurd walk
  walk-of_ids distinct (id ∷ []) walk = (
    walk.0 ∷ [],
    within-history walk.0 id walk.1,
    ap (λ (i : List ℕ). i ∷ []) (get_or_from_slice_get (graph_ids layers) walk.0 id [] walk.1),
  )
  walk-of_ids distinct (id ∷ next ∷ rest) walk =
      let over = walk-of_ids distinct (next ∷ rest) walk.1 in
      walk-more distinct id next rest walk.0 over.0 over.1 over.2

pub walked_by_ids : (layers : List Layer) (ids : List (List ℕ)) → All IsOpened layers → AreDistinct layers
    → IsIdWalk layers ids ↔ ((walk : List ℕ) × IsWalk (history_of layers) walk × (ids_at layers walk ≡ ids))
walked_by_ids layers ids opened distinct =
    (walk-of_ids layers opened distinct ids, λ over. subst (IsIdWalk layers) over.2 (ids-of_walk layers opened over.0 over.1))
