-- More commits after those of a history whose parents are all there: what is said of the first ones stays.
use Rattle.std.proofs.Common.{◌≡◌, ℕ, ◌<◌, List, [], ◌∷◌, ◌++◌, All, Contains, Option, Some, length, sym, ap, subst}
use Rattle.std.proofs.Common.{arith}
use Rattle.std.specs.Prelude.{◌↔◌}
use Rattle.std.specs.Option.{option_map_or}
use Rattle.std.proofs.lemmas.Grind.{flat_map-append}
use Rattle.std.proofs.lemmas.List.{length-append}
use Rattle.std.proofs.lemmas.List.Elements.{All-contains}
use Rattle.graph_walks.specs.History.{Node, IsParent, generation_at, parents_at}
use Rattle.graph_walks.specs.Walks.{IsWalk, IsWalkBetween, Reaches}
use Rattle.graph_format.specs.Layer.{Layer}
use Rattle.graph_format.specs.StoredHistory.{history_of, layer_history}
use Rattle.gix_commitgraph.proofs.layers.LayerListLemmas.{get-front}
use Rattle.graph_bases.specs.Bases.{IsCommonAncestor, IsMergeBase, IsReachedFromSome}
use Rattle.graph_bases.proofs.ReachLemmas.{reaches_within}

pub history-more : (layers : List Layer) (file : Layer)
    → history_of (layers ++ file ∷ []) ≡ history_of layers ++ history_of (file ∷ [])
unfolding history_of
history-more layers file = flat_map-append layer_history layers (file ∷ [])

module _ (old more : List Node) where
  pub generation_stays : (p : ℕ) → p < length old → generation_at (old ++ more) p ≡ generation_at old p
  generation_stays p lt = ap (λ (n : Option Node). option_map_or (λ node. node.generation) n 0) (get-front old more p lt)

  pub parents_stay : (p : ℕ) → p < length old → parents_at (old ++ more) p ≡ parents_at old p
  parents_stay p lt = ap (λ (n : Option Node). option_map_or (λ node. node.parents) n []) (get-front old more p lt)

  parent_up : (p q : ℕ) → IsParent old p q → IsParent (old ++ more) p q
  parent_up p q parent = (
    omega (arith, parent.0, length-append old more),
    omega (arith, parent.1, length-append old more),
    subst (λ (qs : List ℕ). Contains qs q) (sym (parents_stay p parent.0)) parent.2,
  )

  walk_up : (walk : List ℕ) → IsWalk old walk → IsWalk (old ++ more) walk
  walk_up [] w = absurd w
  walk_up (p ∷ []) w = omega (arith, w, length-append old more)
  walk_up (p ∷ q ∷ rest) w = (parent_up p q w.0, walk_up (q ∷ rest) w.1)

  between_up : (p q : ℕ) (walk : List ℕ) → IsWalkBetween old p q walk → IsWalkBetween (old ++ more) p q walk
  between_up p q walk b = record { is_walk = walk_up walk b.is_walk; first = b.first; last = b.last }

  -- the parents of the first commits are among them
  module _ (closed : (p : ℕ) → All (λ q. q < length old) (parents_at old p)) where
    parent_down : (p q : ℕ) → p < length old → IsParent (old ++ more) p q → IsParent old p q
    parent_down p q lt parent =
        let has : Contains (parents_at old p) q = subst (λ (qs : List ℕ). Contains qs q) (parents_stay p lt) parent.2 in
        (lt, All-contains (λ r. r < length old) (parents_at old p) q (closed p) has, has)

    walk_down : (p : ℕ) (rest : List ℕ) → p < length old → IsWalk (old ++ more) (p ∷ rest) → IsWalk old (p ∷ rest)
    walk_down p [] lt w = lt
    walk_down p (q ∷ rest) lt w =
        let parent = parent_down p q lt w.0 in (parent, walk_down q rest parent.1 w.1)

    between_down : (p q : ℕ) (walk : List ℕ) → p < length old → IsWalkBetween (old ++ more) p q walk
        → IsWalkBetween old p q walk
    between_down p q [] lt b = absurd b.is_walk
    between_down p q (x ∷ rest) lt b =
        let first : Some x ≡ Some p = b.first in
        let same : x ≡ p = cc in
        record {
          is_walk = walk_down x rest (omega (arith, lt, same)) b.is_walk;
          first = b.first;
          last = b.last;
        }

    reaches_down : (p q : ℕ) → p < length old → Reaches (old ++ more) p q → Reaches old p q
    reaches_down p q lt reaches = (reaches.0, between_down p q reaches.0 lt reaches.1)

    reaches_up : (p q : ℕ) → Reaches old p q → Reaches (old ++ more) p q
    reaches_up p q reaches = (reaches.0, between_up p q reaches.0 reaches.1)

    pub reaches_stays : (p q : ℕ) → p < length old → Reaches (old ++ more) p q ↔ Reaches old p q
    reaches_stays p q lt = (reaches_down p q lt, reaches_up p q)

    module _ (first : ℕ) (others : List ℕ) (lt : first < length old) (all : All (λ other. other < length old) others) where
      common_down : (p : ℕ) → IsCommonAncestor (old ++ more) first others p → IsCommonAncestor old first others p
      common_down p common =
          let some : IsReachedFromSome (old ++ more) others p = common.1 in
          let within = All-contains (λ other. other < length old) others some.0 all some.1 in
          (reaches_down first p lt common.0, (some.0, some.1, reaches_down some.0 p within some.2))

      common_up : (p : ℕ) → IsCommonAncestor old first others p → IsCommonAncestor (old ++ more) first others p
      common_up p common =
          let some : IsReachedFromSome old others p = common.1 in
          (reaches_up first p common.0, (some.0, some.1, reaches_up some.0 p some.2))

      base_down : (p : ℕ) → IsMergeBase (old ++ more) first others p → IsMergeBase old first others p
      base_down p base = record {
        common = common_down p base.common;
        best = λ q common proper. base.best q (common_up q common) (proper.0, between_up q p proper.0 proper.1, proper.2);
      }

      base_up : (p : ℕ) → IsMergeBase old first others p → IsMergeBase (old ++ more) first others p
      base_up p base = record {
        common = common_up p base.common;
        best = λ q common proper.
            let below = common_down q common in
            let within = reaches_within old first q below.0 in
            base.best q below (proper.0, between_down q p proper.0 within proper.1, proper.2);
      }

      pub base_stays : (p : ℕ) → IsMergeBase (old ++ more) first others p ↔ IsMergeBase old first others p
      base_stays p = (base_down p, base_up p)
