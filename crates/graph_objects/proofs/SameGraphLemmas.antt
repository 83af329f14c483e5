-- Two right graphs with the same commits, of which no id stands at two positions, are one history.
use Rattle.std.proofs.Common.{◌≡◌, ℕ, zero, suc, ◌<◌, ◌≤◌, List, [], ◌∷◌, ◌++◌, map, length, slice_get, refl, sym}
use Rattle.std.proofs.Common.{ap, ◌∙◌, arith, subst}
use Rattle.std.specs.Prelude.{All, Contains, Option, Some, None, Ok}
use Rattle.std.proofs.lemmas.List.{ext_get_or}
use Rattle.graph_walks.specs.History.{Node, IsParent, generation_at, parents_at}
use Rattle.graph_walks.specs.Walks.{IsWalk, HasGeneration}
use Rattle.graph_format.specs.Layer.{Layer, IsOpened, record_at}
use Rattle.graph_format.specs.Parents.{parents_of, fault_items}
use Rattle.graph_format.specs.StoredHistory.{history_of}
use Rattle.graph_format.specs.declared.Position.{Position}
use Rattle.graph_format.specs.declared.parents.ParentError.{ParentError}
use Rattle.gix_commitgraph.specs.Distinct.{AreDistinct}
use Rattle.gix_commitgraph.specs.Graph.{graph_ids, total}
use Rattle.gix_commitgraph.specs.Sound.{Sound}
use Rattle.gix_commitgraph.proofs.history.HistoryLemmas.{length-history, parents-at}
use Rattle.gix_commitgraph.proofs.layers.GraphLemmas.{counted}
use Rattle.gix_hash_core.specs.declared.kind.Kind.{Kind}
use Rattle.commit_objects.specs.CommitContents.{Said}
use Rattle.graph_objects.specs.Matching.{MatchesAt, ids_of_items, each_known}
use Rattle.graph_objects.specs.Stream.{IsStreamOf}
use Rattle.graph_objects.specs.OneGraph.{IsOneGraph}
use Rattle.graph_objects.proofs.DigestLemmas.{matched}
use Rattle.graph_objects.proofs.SameCommitLemmas.{both_match, one_stream, said_by_both}

-- The positions of parents are fixed by their ids, where no id stands at two.
module _ (ids : List (List ℕ))
    (distinct : (p q : ℕ) (id : List ℕ) → slice_get ids p ≡ Some id → slice_get ids q ≡ Some id → p ≡ q) where
  same_positions : (ps qs : List Position) (f g : Option ParentError) (said : List (List ℕ))
      → ids_of_items ids (map (λ pos. Ok pos) ps ++ fault_items f) ≡ each_known said
      → ids_of_items ids (map (λ pos. Ok pos) qs ++ fault_items g) ≡ each_known said
      → map (λ (pos : Position). pos.0) ps ≡ map (λ (pos : Position). pos.0) qs
  same_positions [] [] f g said one other = refl
  same_positions [] (q ∷ qs) None g [] one other = cc other
  same_positions [] (q ∷ qs) None g (s ∷ said) one other = cc one
  same_positions [] (q ∷ qs) (Some fault) g [] one other = cc one
  same_positions [] (q ∷ qs) (Some fault) g (s ∷ said) one other = cc one
  same_positions (p ∷ ps) [] f None [] one other = cc one
  same_positions (p ∷ ps) [] f None (s ∷ said) one other = cc other
  same_positions (p ∷ ps) [] f (Some fault) [] one other = cc other
  same_positions (p ∷ ps) [] f (Some fault) (s ∷ said) one other = cc other
  same_positions (p ∷ ps) (q ∷ qs) f g [] one other = cc one
  same_positions (p ∷ ps) (q ∷ qs) f g (s ∷ said) one other =
      let first : slice_get ids p.0 ≡ Some s = cc one in
      let second : slice_get ids q.0 ≡ Some s = cc other in
      let here : p.0 ≡ q.0 = distinct p.0 q.0 s first second in
      let rest = same_positions ps qs f g said (cc one) (cc other) in
      cc (here, rest)

-- Generation numbers that count walks are fixed by the parents.
module _ (one other : List Node) (as_many : length one ≡ length other)
    (same : (p : ℕ) → p < length one → parents_at one p ≡ parents_at other p) where
  parent_there : (p q : ℕ) → IsParent one p q → IsParent other p q
  parent_there p q (from, to, is) = (
    omega (arith, from, as_many),
    omega (arith, to, as_many),
    subst (λ (qs : List ℕ). Contains qs q) (same p from) is,
  )

  walk_there : (walk : List ℕ) → IsWalk one walk → IsWalk other walk
  walk_there [] is = is
  walk_there (p ∷ []) is = omega (arith, is, as_many)
  walk_there (p ∷ q ∷ rest) is = (parent_there p q is.0, walk_there (q ∷ rest) is.1)

  at_most : (p g h : ℕ) → HasGeneration one p g → HasGeneration other p h → g ≤ h
  at_most p zero h first second = omega arith
  at_most p (suc g) h first second =
      let walk = (first.counts (suc g) (omega arith) (omega (arith, first.capped))).1 (omega arith) in
      (second.counts (suc g) (omega arith) (omega (arith, first.capped))).0
      (walk.0, walk_there walk.0 walk.1, walk.2, walk.3)

-- Histories that say the same of each commit are one.
one_node : (x y : Node) → x.generation ≡ y.generation → x.parents ≡ y.parents → x ≡ y
one_node x y generation parents =
    let of_generation : ℕ → Node = λ n. record { generation = n; parents = x.parents } in
    let of_parents : List ℕ → Node = λ ps. record { generation = y.generation; parents = ps } in
    ap of_generation generation ∙ ap of_parents parents

one_history : (one other : List Node) → length one ≡ length other
    → ((p : ℕ) → p < length one → generation_at one p ≡ generation_at other p)
    → ((p : ℕ) → p < length one → parents_at one p ≡ parents_at other p) → one ≡ other
one_history [] [] as_many generations parents = refl
one_history [] (y ∷ other) as_many generations parents = absurd (omega (arith, as_many))
one_history (x ∷ one) [] as_many generations parents = absurd (omega (arith, as_many))
one_history (x ∷ one) (y ∷ other) as_many generations parents =
    let first = one_node x y (generations 0 (omega arith)) (parents 0 (omega arith)) in
    let rest =
    one_history one other (omega (arith, as_many)) (λ p within. generations (suc p) (omega (arith, within)))
    (λ p within. parents (suc p) (omega (arith, within))) in
    cc (first, rest)

module _ (one other : List Layer) (kind : Kind) (bytes : List ℕ) (one_opened : All IsOpened one)
    (other_opened : All IsOpened other)
    (one_alike : All (λ layer. layer.kind ≡ kind) one) (other_alike : All (λ layer. layer.kind ≡ kind) other)
    (distinct : AreDistinct one) (first : IsStreamOf one 0 (total one) bytes)
    (second : IsStreamOf other 0 (total other) bytes) where
  both : (total one ≡ total other)
      × ((p : ℕ) → p < total one → (contents : List ℕ) × MatchesAt one p contents × MatchesAt other p contents)
  both = both_match one other kind one_alike other_alike bytes first second

  same_ids : graph_ids one ≡ graph_ids other
  same_ids =
      let commits = one_stream one other kind one_alike other_alike bytes first second in
      ext_get_or [] (graph_ids one) (graph_ids other) (omega (arith, both.0, (counted one).ids, (counted other).ids))
      (λ p within. (commits.each p (omega (arith, within, (counted one).ids))).id)

  same_parents : (p : ℕ) → p < total one → parents_at (history_of one) p ≡ parents_at (history_of other) p
  same_parents p within =
      let at = both.1 p within in
      let a = matched one p at.0 at.1 in
      let b = matched other p at.0 at.2 in
      let said = said_by_both one other kind one_alike other_alike p at.0 at.1 at.2 in
      let decoded = parents_of (record_at a.0 a.1) a.0.edges in
      let also = parents_of (record_at b.0 b.1) b.0.edges in
      let known : ids_of_items (graph_ids one) (map (λ pos. Ok pos) also.positions ++ fault_items also.fault)
      ≡ each_known a.3.said.parents =
      ap (λ ids. ids_of_items ids (map (λ pos. Ok pos) also.positions ++ fault_items also.fault)) same_ids
      ∙ b.3.agree.parents ∙ sym (ap (λ (s : Said). each_known s.parents) said) in
      parents-at one p a.1 a.0 one_opened a.2
      ∙ same_positions (graph_ids one) distinct decoded.positions also.positions decoded.fault also.fault a.3.said.parents
      a.3.agree.parents known
      ∙ sym (parents-at other p b.1 b.0 other_opened b.2)

  pub one_graph : Sound one → Sound other → IsOneGraph one other
  one_graph right also =
      let one_length = length-history one one_opened in
      let other_length = length-history other other_opened in
      let as_many : length (history_of one) ≡ length (history_of other) = one_length ∙ both.0 ∙ sym other_length in
      let parents = λ (p : ℕ) (within : p < length (history_of one)). same_parents p (omega (arith, within, one_length)) in
      let back = λ (p : ℕ) (within : p < length (history_of other)). sym (parents p (omega (arith, within, as_many))) in
      record {
        ids = same_ids;
        history = one_history (history_of one) (history_of other) as_many
            (λ p within.
            let mine = right.generations p within in
            let theirs = also.generations p (omega (arith, within, as_many)) in
            let up = at_most (history_of one) (history_of other) as_many parents p _ _ mine theirs in
            let down = at_most (history_of other) (history_of one) (sym as_many) back p _ _ theirs mine in
            omega (arith, up, down))
            parents;
      }
