-- Why the first walk that the search queues is a shortest one.
use Rattle.std.proofs.Common.{◌≡◌, ◌⊎◌, ℕ, suc, zero, ◌+◌, ◌<◌, ◌≤◌, List, [], ◌∷◌, length, refl, sym, ap, ◌∙◌, subst}
use Rattle.std.proofs.Common.{inl, inr, ⊎_elim, arith}
use Rattle.std.proofs.lemmas.Bool.{cases_lt}
use Rattle.graph_walks.specs.History.{Node, IsParent, generation_at}
use Rattle.graph_walks.specs.Walks.{IsWalkBetween, Reaches}
use Rattle.graph_walks.proofs.WalkPathLemmas.{Path, between_from_path, path_from_between}
use Rattle.commit_search.specs.Marks.{Marked}
use Rattle.commit_search.specs.Queue.{IsQueue, IsQueued, QueuesParents, Depth, commit_in, child_in}
use Rattle.commit_search.specs.BreadthFirst.{AreInOrder, QueuesParentsFrom}
use Rattle.commit_search.specs.WalkAnswer.{LeadsWithin}

module _ (h : List Node) (least : ℕ) (queued : List Marked) (queue : IsQueue h least queued) where
  -- each place has a depth
  depth_below : (n i : ℕ) → i ≤ n → i < length queued → (d : ℕ) × Depth queued i d
  depth_below zero i le lt = (0, omega arith)
  depth_below (suc n) i le lt =
      ⊎_elim
      (λ (pos : 0 < i).
      let earlier = queue.earlier i pos lt in
      let child = depth_below n (child_in queued i) (omega arith) (omega arith) in
      (suc child.0, (pos, child.1)))
      (λ (none : i ≤ 0). (0, omega arith))
      (cases_lt 0 i)

  pub depth_of : (i : ℕ) → i < length queued → (d : ℕ) × Depth queued i d
  depth_of i lt = depth_below i i (omega arith) lt

  pub depth_within : (d i : ℕ) → i < length queued → Depth queued i d → d ≤ i
  depth_within zero i lt x = omega arith
  depth_within (suc d) i lt x =
      let earlier = queue.earlier i x.0 lt in
      let below = depth_within d (child_in queued i) (omega arith) x.1 in
      omega arith

  -- a walk from a place begins with the first commit as well, as many steps further back as the place is deep
  back : (d i q : ℕ) (rest : List ℕ) → i < length queued → Depth queued i d → Path h (commit_in queued i) q rest
      → (front : List ℕ) × Path h (commit_in queued 0) q front × (length front ≡ d + length rest)
  back zero i q rest lt x path = (rest, subst (λ (k : ℕ). Path h (commit_in queued k) q rest) x path, omega arith)
  back (suc d) i q rest lt x path =
      let earlier = queue.earlier i x.0 lt in
      let further =
      back d (child_in queued i) q (commit_in queued i ∷ rest) (omega arith) x.1 (queue.parents i x.0 lt, path) in
      (further.0, further.1, omega (arith, further.2))

  pub queued_is_led_to : (i n : ℕ) → i < length queued → ((d : ℕ) → Depth queued i d → d ≤ n)
      → LeadsWithin h (commit_in queued 0) (commit_in queued i) n
  queued_is_led_to i n lt shallow =
      let depth = depth_of i lt in
      let path = back depth.0 i (commit_in queued i) [] lt depth.1 (refl, queue.within i lt) in
      (commit_in queued 0 ∷ path.0, between_from_path h _ _ path.0 path.1, omega (arith, path.2, shallow depth.0 depth.1))

  pub queued_is_reached : (i : ℕ) → i < length queued → Reaches h (commit_in queued 0) (commit_in queued i)
  queued_is_reached i lt =
      let led = queued_is_led_to i i lt (λ d depth. depth_within d i lt depth) in
      (led.0, led.1)

  -- where the parents of all places were queued, each commit that is reached and high enough was queued
  module _ (never_rises : (p q : ℕ) → Reaches h p q → generation_at h q ≤ generation_at h p)
      (closed : (i : ℕ) → i < length queued → QueuesParents h least queued i) where
    leads_to : (p q : ℕ) (rest : List ℕ) → Path h p q rest → least ≤ generation_at h q → IsQueued queued p → IsQueued queued q
    leads_to p q [] path high at = subst (IsQueued queued) path.0 at
    leads_to p q (y ∷ rest) path high (i, lt, at) =
        let lower = never_rises y q (y ∷ rest, between_from_path h y q rest path.1) in
        let parent = subst (λ (x : ℕ). IsParent h x y) (sym at) path.0 in
        leads_to y q rest path.1 high (closed i lt y parent (omega arith))

    pub all_queued : (from q : ℕ) → IsQueued queued from → least ≤ generation_at h q → Reaches h from q → IsQueued queued q
    all_queued from q at high (walk, between) =
        let path = path_from_between h from q walk between in
        leads_to from q path.0 path.2 high at

  -- where places are queued in the order of the places from which they were reached
  module _ (order : AreInOrder queued) where
    -- what was queued later is at least as deep
    pub depth_in_order : (a b i j : ℕ) → i ≤ j → j < length queued → Depth queued i a → Depth queued j b → a ≤ b
    depth_in_order zero b i j le lt x y = omega arith
    depth_in_order (suc a) zero i j le lt x y = let pos = x.0 in absurd (omega arith)
    depth_in_order (suc a) (suc b) i j le lt x y =
        let earlier = queue.earlier j y.0 lt in
        let shallower =
        depth_in_order a b (child_in queued i) (child_in queued j) (order i j le lt) (omega arith) x.1 y.1 in
        omega arith

    -- where the parents of all places before done were queued: a walk leads to a place that is no deeper than the walk is
    -- long, or is cut at a place from done on that is less deep
    module _ (never_rises : (p q : ℕ) → Reaches h p q → generation_at h q ≤ generation_at h p) (done : ℕ) (closed : (i : ℕ)
        → i < done → QueuesParentsFrom h least queued i) where
      abbrev IsAt : ℕ → ℕ → Type 0
      IsAt q n = (j : ℕ) × (e : ℕ) × (j < length queued) × (commit_in queued j ≡ q) × Depth queued j e × (e ≤ n)

      abbrev IsCut : ℕ → Type 0
      IsCut n = (j : ℕ) × (e : ℕ) × (done ≤ j) × (j < length queued) × Depth queued j e × (e < n)

      -- the parent of a place before done is at most one deeper
      one_deeper : (i d q : ℕ) → i < length queued → i < done → Depth queued i d → IsParent h (commit_in queued i) q
          → least ≤ generation_at h q → IsAt q (d + 1)
      one_deeper i d q lt before depth parent high =
          let at = closed i before q parent high in
          let j = at.0 in
          ⊎_elim
          (λ (pos : 0 < j).
          let earlier = queue.earlier j pos at.1 in
          let child = depth_of (child_in queued j) (omega (arith, at.1)) in
          let order = depth_in_order child.0 d (child_in queued j) i at.3 lt child.1 depth in
          (j, suc child.0, at.1, at.2, (pos, child.1), omega arith))
          (λ (none : j ≤ 0). (j, 0, at.1, at.2, (omega arith), (omega arith)))
          (cases_lt 0 j)

      leads : (p q : ℕ) (rest : List ℕ) → Path h p q rest → least ≤ generation_at h q → (i d : ℕ) → i < length queued
          → commit_in queued i ≡ p → Depth queued i d → IsAt q (d + length rest) ⊎ IsCut (d + length rest)
      leads p q [] path high i d lt at depth = inl (i, d, lt, at ∙ path.0, depth, omega arith)
      leads p q (y ∷ rest) path high i d lt at depth =
          ⊎_elim
          (λ (before : i < done).
          let lower = never_rises y q (y ∷ rest, between_from_path h y q rest path.1) in
          let parent = subst (λ (x : ℕ). IsParent h x y) (sym at) path.0 in
          let next = one_deeper i d y lt before depth parent (omega arith) in
          ⊎_elim
          (λ (r : IsAt q (next.1 + length rest)). inl (r.0, r.1, r.2, r.3, r.4, omega (arith, r.5, next.5)))
          (λ (r : IsCut (next.1 + length rest)). inr (r.0, r.1, r.2, r.3, r.4, omega (arith, r.5, next.5)))
          (leads y q rest path.1 high next.0 next.1 next.2 next.3 next.4))
          (λ (after : done ≤ i). inr (i, d, after, lt, depth, omega arith))
          (cases_lt i done)

      -- no walk to the commit at place done is shorter than the one by which it was queued
      pub no_shorter : (d : ℕ) (walk : List ℕ) → done < length queued → least ≤ generation_at h (commit_in queued done)
          → Depth queued done d → IsWalkBetween h (commit_in queued 0) (commit_in queued done) walk → d + 1 ≤ length walk
      no_shorter d walk lt high depth between =
          let path = path_from_between h (commit_in queued 0) (commit_in queued done) walk between in
          let len : length walk ≡ length path.0 + 1 = omega (arith, ap length path.1) in
          ⊎_elim
          (λ (r : IsAt (commit_in queued done) (0 + length path.0)).
          let same : r.0 ≡ done = queue.once r.0 done r.2 lt r.3 in
          let order = depth_in_order d r.1 done r.0 (omega arith) r.2 depth r.4 in
          omega (arith, r.5))
          (λ (r : IsCut (0 + length path.0)).
          let order = depth_in_order d r.1 done r.0 r.2 r.3 depth r.4 in
          omega (arith, r.5))
          (leads (commit_in queued 0) (commit_in queued done) path.0 path.2 high 0 0 (omega arith) refl refl)
