-- What a painting visits, where no commit that it starts from is at the cap.
use Rattle.std.proofs.Common.{◌≡◌, ◌≢◌, ℕ, ◌+◌, ◌<◌, ◌≤◌, suc, zero, List, [], ◌∷◌, length, map, Bool, true, false, not}
use Rattle.std.proofs.Common.{cond}
use Rattle.std.proofs.Common.{◌&&◌, All, Contains, set, sum_by, count_by, refl, sym, ap, ◌∙◌, subst, inl, inr}
use Rattle.std.proofs.Common.{⊎_elim}
use Rattle.std.proofs.Common.{arith}
use Rattle.std.specs.BinaryHeap.{IsHeap}
use Rattle.std.proofs.lemmas.Bool.{cases_Bool, cases_eq, cases_lt, both_ways, and_from, and_parts, false≢true}
use Rattle.std.proofs.lemmas.List.{length-map}
use Rattle.std.proofs.lemmas.List.Elements.{All-nil, All-weaker, All-contains_itself}
use Rattle.std.proofs.lemmas.List.Sorted.{Contains-permutation, length_permutation}
use Rattle.std.proofs.lemmas.List.Sums.{sum_by-set}
use Rattle.graph_walks.specs.History.{Node}
use Rattle.graph_bases.specs.Bases.{IsStart, AreBelowCap, IsOnOneSide, IsAtEdge, IsAboveEdge}
use Rattle.commit_search.specs.Cardinality.{AtLeast}
use Rattle.graph_bases.specs.declared.paint.Coat.{Coat}
use Rattle.graph_bases.specs.declared.paint.Paint.{Paint}
use Rattle.graph_bases.specs.Paint.{is_painted, is_stale, is_fresh, is_visited, is_on_one_side, covers, joined, bare}
use Rattle.graph_bases.specs.Paint.{coat_at, paint_at, is_queued, IsSo, IsPaint}
use Rattle.graph_bases.specs.Painting.{IsLevel, IsRanked, entry_cmp, IsWaiting, IsKnownEdge, IsVisiting, IsPainted}
use Rattle.commit_search.specs.Ranks.{Ranking, FallsAlongParents}
use Rattle.graph_bases.proofs.PaintLemmas.{joined_painted, joined_fresh, one_side_painted, one_side, painted_leads}
use Rattle.commit_search.proofs.RankLemmas.{never_rises}
use Rattle.graph_bases.proofs.CoatLemmas.{IsNext, TakenBy, next_rank, next_inside, all_low}
use Rattle.graph_bases.proofs.FoundLemmas.{counted_number, some_counted, tested_within}
use Rattle.commit_search.proofs.CardinalityLemmas.{no_more}

-- a commit of which something is known is below the cap
pub painted_below_cap : {h : List Node} {k : Ranking} {a : ℕ} {bs : List ℕ} {coats : List Coat} → IsPaint h a bs coats
    → FallsAlongParents h k → AreBelowCap k a bs → (p : ℕ) → is_painted (paint_at coats p) ≡ true → k.rank p < k.cap
painted_below_cap {h} {k} {a} {bs} {coats} paint along below p painted =
    ⊎_elim
    (λ e.
    let low = never_rises along a p ((paint.each p).first e) in
    let cap = below a (inl refl) in
    omega arith)
    (λ e.
    let some = (paint.each p).others e in
    let low = never_rises along some.0 p some.2 in
    let cap = below some.0 (inr some.1) in
    omega arith)
    (painted_leads (paint_at coats p) painted)

-- one below the level of which something is known
pub painted_queued : (k : Ranking) (coats : List Coat) (queue : List (ℕ × ℕ)) (level p : ℕ) → IsLevel k coats queue level
    → k.rank p < level → is_painted (paint_at coats p) ≡ true → is_queued coats p ≡ true
painted_queued k coats queue level p levelled low painted =
    ⊎_elim
    (λ (queued : is_queued coats p ≡ true). queued)
    (λ (settled : is_queued coats p ≡ false). let high = levelled.above p settled painted in absurd (omega arith))
    (cases_Bool (is_queued coats p))

-- The commit that is taken is marked as queued, since as many commits are as the queue has entries.
module _ {n : ℕ} {coats : List Coat} {queue rest : List (ℕ × ℕ)} {next : ℕ × ℕ} (is_next : IsNext n coats queue rest next) where
  open is_next use {waiting, moved}

  place_in : (entries : List (ℕ × ℕ)) (g p : ℕ) → Contains entries (g, p) → Contains (map (λ (e : ℕ × ℕ). e.1) entries) p
  place_in [] g p contained = absurd (let lt = contained.1 in omega arith)
  place_in (e ∷ es) g p (zero, lt, at) = (zero, omega arith, ap (λ (x : ℕ × ℕ). x.1) at)
  place_in (e ∷ es) g p (suc k, lt, at) =
      let more = place_in es g p (k, omega arith, at) in (suc more.0, (let lt' = more.1 in omega arith), more.2)

  in_rest : is_queued coats next.1 ≡ false → (p : ℕ) → is_queued coats p ≡ true → (g : ℕ) × Contains rest (g, p)
  in_rest unqueued p queued = (has.0, by_cases (Contains-permutation queue (next ∷ rest) (has.0, p) moved has.1)) where
    has : (g : ℕ) × Contains queue (g, p)
    has = waiting.queued p queued

    by_cases : Contains (next ∷ rest) (has.0, p) → Contains rest (has.0, p)
    by_cases (zero, lt, at) =
        let same : next.1 ≡ p = ap (λ (x : ℕ × ℕ). x.1) at in
        absurd (both_ways (is_queued coats p) (ap (is_queued coats) (sym same) ∙ unqueued) queued)
    by_cases (suc k, lt, at) = (k, omega arith, at)

  pub next_queued : is_queued coats next.1 ≡ true
  next_queued =
      ⊎_elim
      (λ (queued : is_queued coats next.1 ≡ true). queued)
      (λ (unqueued : is_queued coats next.1 ≡ false).
      let t : Coat → Bool = λ m. m.queued in
      let all =
      counted_number t coats (λ p. is_queued coats p ≡ true) (λ p. ((λ e. e), (λ e. e)))
      (λ p e. tested_within t refl coats p e) (count_by t coats) refl in
      let bound =
      no_more all.0 (map (λ (e : ℕ × ℕ). e.1) rest) all.1.once
      (λ p contained.
      let left = in_rest unqueued p ((all.1.those p).0 contained) in place_in rest left.0 p left.1) in
      let len = length_permutation queue (next ∷ rest) moved in
      let same = length-map rest (λ (e : ℕ × ℕ). e.1) in
      let was = waiting.count in
      let many = all.2 in
      absurd (omega arith))
      (cases_Bool (is_queued coats next.1))

-- Nothing is visited yet.
module _ (h : List Node) (a : ℕ) (bs : List ℕ) (coats : List Coat) (none : (p : ℕ) → coat_at coats p ≡ bare) where
  pub none_counted : (t : Coat → Bool) → t bare ≡ false → count_by t coats ≡ 0
  none_counted t unmet =
      ⊎_elim
      (λ (lt : 0 < count_by t coats).
      let one = some_counted t coats lt in absurd (both_ways (t bare) unmet (sym (ap t (none one.0)) ∙ one.1)))
      (λ (le : count_by t coats ≤ 0). omega arith)
      (cases_lt 0 (count_by t coats))

  pub visiting_none : (k : Ranking) → IsVisiting h k a bs coats 0
  visiting_none k = record {
    painted = λ p e. absurd (false≢true (sym (ap (λ (m : Coat). m.queued) (none p)) ∙ e));
    edge = λ p e f. absurd (false≢true (sym (ap (λ (m : Coat). is_painted m.paint) (none p)) ∙ e));
    above = λ p f e. absurd (false≢true (sym (ap (λ (m : Coat). is_painted m.paint) (none p)) ∙ e));
    count = sym (none_counted is_visited refl);
  }

  pub waiting_none : (count : ℕ) (queue : List (ℕ × ℕ)) → queue ≡ [] → IsHeap entry_cmp queue → IsWaiting count coats queue
  waiting_none count queue empty order = record {
    order = order;
    within = subst (All (λ (e : ℕ × ℕ). e.1 < count)) (sym empty) (All-nil (λ (e : ℕ × ℕ). e.1 < count));
    queued = λ p e. absurd (false≢true (sym (ap (λ (m : Coat). m.queued) (none p)) ∙ e));
    count = ap length empty ∙ sym (none_counted (λ (m : Coat). m.queued) refl);
  }

  pub ranked_none : (k : Ranking) (queue : List (ℕ × ℕ)) → queue ≡ [] → All (IsRanked k) queue
  ranked_none k queue empty = subst (All (IsRanked k)) (sym empty) (All-nil (IsRanked k))

  pub paint_none : length coats ≡ length h → IsPaint h a bs coats
  paint_none len = record {
    coats_len = len;
    each = λ p. subst (λ (m : Coat). IsSo h a bs p m.paint) (sym (none p)) (record {
      first = λ e. absurd (false≢true e);
      others = λ e. absurd (false≢true e);
      stale = λ e. absurd (false≢true e);
    });
  }

pub unvisited_queued : (m : Coat) → m.queued ≡ true → is_visited m ≡ false
unvisited_queued m e = ap (λ (b : Bool). is_painted m.paint && not b) e ∙ and_not (is_painted m.paint) where
  and_not : (b : Bool) → (b && false) ≡ false
  and_not true = refl
  and_not false = refl

-- Paint was added to one that is bare or queued.
module _ {k : Ranking} (h : List Node) (a : ℕ) (bs : List ℕ) (coats after : List Coat) (p : ℕ) (x : Paint) (visits : ℕ)
    (new : Coat) (inside : p < length coats) (is_new : new ≡ record { paint = joined (paint_at coats p) x; queued = true })
    (is_after : after ≡ set coats p new) (here : coat_at after p ≡ record { paint = joined (paint_at coats p) x; queued = true })
    (there : (q : ℕ) → q ≢ p → coat_at after q ≡ coat_at coats q)
    (waits : is_painted (paint_at coats p) ≡ true → is_queued coats p ≡ true)
    (at_edge : is_stale x ≡ false → IsKnownEdge h a bs coats p) (uncovered : covers (paint_at coats p) x ≡ false)
    (visiting : IsVisiting h k a bs coats visits) where
  here_at : (q : ℕ) → q ≡ p → coat_at after q ≡ record { paint = joined (paint_at coats p) x; queued = true }
  here_at q e = ap (coat_at after) e ∙ here

  stays : (e : ℕ) → IsKnownEdge h a bs coats e → IsKnownEdge h a bs after e
  stays e edge =
      ⊎_elim
      (λ (start : IsStart a bs e). inl start)
      (λ known.
      let c = known.0 in
      let apart : c ≢ p =
      λ same.
      both_ways (is_queued coats c) known.1
      (ap (is_queued coats) same ∙ waits (ap (λ (q : ℕ). is_painted (paint_at coats q)) (sym same)
      ∙ one_side_painted (paint_at coats c) known.2)) in
      let same = there c apart in
      inr (c, ap (λ (m : Coat). m.queued) same ∙ known.1, ap (λ (m : Coat). is_on_one_side m.paint) same ∙ known.2, known.3))
      edge

  old_unvisited : is_visited (coat_at coats p) ≡ false
  old_unvisited =
      ⊎_elim
      (λ (e : is_painted (paint_at coats p) ≡ true). unvisited_queued (coat_at coats p) (waits e))
      (λ (e : is_painted (paint_at coats p) ≡ false). ap (λ (b : Bool). b && not (is_queued coats p)) e)
      (cases_Bool (is_painted (paint_at coats p)))

  pub visiting_added : IsVisiting h k a bs after visits
  visiting_added = record {
    painted = λ q queued.
        ⊎_elim
        (λ (e : q ≡ p). ap (λ (m : Coat). is_painted m.paint) (here_at q e) ∙ joined_painted (paint_at coats p) x uncovered)
        (λ (apart : q ≢ p).
        let same = there q apart in
        ap (λ (m : Coat). is_painted m.paint) same ∙ visiting.painted q (sym (ap (λ (m : Coat). m.queued) same) ∙ queued))
        (cases_eq q p);
    edge = λ q painted live.
        ⊎_elim
        (λ (e : q ≡ p).
        subst (IsKnownEdge h a bs after) (sym e)
        (stays p (at_edge (joined_fresh (paint_at coats p) x
        (sym (ap (λ (m : Coat). is_stale m.paint) (here_at q e)) ∙ live)))))
        (λ (apart : q ≢ p).
        let same = there q apart in
        stays q (visiting.edge q (sym (ap (λ (m : Coat). is_painted m.paint) same) ∙ painted)
        (sym (ap (λ (m : Coat). is_stale m.paint) same) ∙ live)))
        (cases_eq q p);
    above = λ q settled painted.
        ⊎_elim
        (λ (e : q ≡ p). absurd (both_ways (is_queued after q) settled (ap (λ (m : Coat). m.queued) (here_at q e))))
        (λ (apart : q ≢ p).
        let same = there q apart in
        let was =
        visiting.above q (sym (ap (λ (m : Coat). m.queued) same) ∙ settled)
        (sym (ap (λ (m : Coat). is_painted m.paint) same) ∙ painted) in
        (was.0, stays was.0 was.1, was.2))
        (cases_eq q p);
    count =
        let f : Coat → ℕ = λ m. cond (is_visited m) 1 0 in
        let sums = sum_by-set f coats p new bare inside in
        let now : sum_by f after ≡ sum_by f (set coats p new) = ap (sum_by f) is_after in
        let old : f (coat_at coats p) ≡ 0 = ap (λ (b : Bool). cond {A = ℕ} b 1 0) old_unvisited in
        let queued : new.queued ≡ true = ap (λ (m : Coat). m.queued) is_new in
        let one : f new ≡ 0 = ap (λ (b : Bool). cond {A = ℕ} b 1 0) (unvisited_queued new queued) in
        let was = visiting.count in
        omega arith;
  }

-- A commit was taken from the queue, while one is fresh.
module _ {h : List Node} {k : Ranking} {a : ℕ} {bs : List ℕ} {n : ℕ} {coats after : List Coat} {queue rest : List (ℕ × ℕ)}
    {next : ℕ × ℕ} {visits : ℕ} {coat : Coat} (is_next : IsNext n coats queue rest next) (ranked : All (IsRanked k) queue)
    (is_coat : coat ≡ record { paint = paint_at coats next.1; queued = false }) (is_after : after ≡ set coats next.1 coat)
    (taken : TakenBy n coats after queue rest next) (queued : is_queued coats next.1 ≡ true)
    (some : 0 < count_by is_fresh coats) (visiting : IsVisiting h k a bs coats visits) where
  settles : (q : ℕ) → is_queued coats q ≡ false → is_queued after q ≡ false
  settles q settled =
      ⊎_elim
      (λ (e : q ≡ next.1). ap (is_queued after) e ∙ taken.here)
      (λ (apart : q ≢ next.1). ap (λ (m : Coat). m.queued) (taken.there q apart) ∙ settled)
      (cases_eq q next.1)

  keeps : (e : ℕ) → IsKnownEdge h a bs coats e → IsKnownEdge h a bs after e
  keeps e edge =
      ⊎_elim
      (λ (start : IsStart a bs e). inl start)
      (λ known.
      let c = known.0 in
      inr (c, settles c known.1, ap is_on_one_side (taken.same c) ∙ known.2, known.3))
      edge

  pub visiting_taken : IsVisiting h k a bs after (visits + 1)
  visiting_taken = record {
    painted = λ q is.
        ⊎_elim
        (λ (e : q ≡ next.1). absurd (both_ways (is_queued after q) (ap (is_queued after) e ∙ taken.here) is))
        (λ (apart : q ≢ next.1).
        ap is_painted (taken.same q)
        ∙ visiting.painted q (sym (ap (λ (m : Coat). m.queued) (taken.there q apart)) ∙ is))
        (cases_eq q next.1);
    edge = λ q painted live.
        keeps q (visiting.edge q (ap is_painted (sym (taken.same q)) ∙ painted) (ap is_stale (sym (taken.same q)) ∙ live));
    above = λ q settled painted.
        ⊎_elim
        (λ (e : q ≡ next.1).
        let fresh = some_counted is_fresh coats some in
        let f = fresh.0 in
        let parts = and_parts (is_queued coats f) (not (is_stale (paint_at coats f))) fresh.1 in
        let le = all_low is_next k ranked f parts.0 in
        let at = next_rank is_next k ranked in
        let same : k.rank q ≡ k.rank next.1 = ap (λ (x : ℕ). k.rank x) e in (
          f,
          keeps f (visiting.edge f (visiting.painted f parts.0) (not_true (is_stale (paint_at coats f)) parts.1)),
          omega arith,
        ))
        (λ (apart : q ≢ next.1).
        let was =
        visiting.above q (sym (ap (λ (m : Coat). m.queued) (taken.there q apart)) ∙ settled)
        (ap is_painted (sym (taken.same q)) ∙ painted) in
        (was.0, keeps was.0 was.1, was.2))
        (cases_eq q next.1);
    count =
        let f : Coat → ℕ = λ m. cond (is_visited m) 1 0 in
        let sums = sum_by-set f coats next.1 coat bare (next_inside is_next) in
        let now : sum_by f after ≡ sum_by f (set coats next.1 coat) = ap (sum_by f) is_after in
        let old : f (coat_at coats next.1) ≡ 0 =
        ap (λ (b : Bool). cond {A = ℕ} b 1 0) (unvisited_queued (coat_at coats next.1) queued) in
        let is : is_visited coat ≡ true = ap is_visited is_coat ∙ and_from (is_painted (paint_at coats next.1)) true
        (visiting.painted next.1 queued) refl in
        let one : f coat ≡ 1 = ap (λ (b : Bool). cond {A = ℕ} b 1 0) is in
        let was = visiting.count in
        omega arith;
  } where
    not_true : (b : Bool) → not b ≡ true → b ≡ false
    not_true true e = absurd (false≢true e)
    not_true false e = refl

-- What was visited at the end.
module _ {h : List Node} {k : Ranking} {a : ℕ} {bs : List ℕ} {coats : List Coat} {visits : ℕ}
    (painted : IsPainted h a bs coats) (paint : IsPaint h a bs coats) (visiting : IsVisiting h k a bs coats visits) where
  is_one_side : (c : ℕ) → is_on_one_side (paint_at coats c) ≡ true → IsOnOneSide h a bs c
  is_one_side c e =
      ⊎_elim
      (λ ahead. inl ((painted.ahead c).0 ahead))
      (λ behind. inr ((painted.behind c).0 behind))
      (one_side (paint_at coats c) e)

  is_at_edge : (e : ℕ) → IsKnownEdge h a bs coats e → IsAtEdge h a bs e
  is_at_edge e edge =
      ⊎_elim
      (λ (start : IsStart a bs e). inl start)
      (λ known. inr (known.0, is_one_side known.0 known.2, known.3))
      edge

  is_above_edge : (p : ℕ) → is_visited (coat_at coats p) ≡ true → IsAboveEdge h k a bs p
  is_above_edge p visited =
      let parts = and_parts (is_painted (paint_at coats p)) (not (is_queued coats p)) visited in
      let settled = not_is (is_queued coats p) parts.1 in
      let above = visiting.above p settled parts.0 in (
        ⊎_elim
            (λ e. inl ((paint.each p).first e))
            (λ e. inr ((paint.each p).others e))
            (painted_leads (paint_at coats p) parts.0),
        (above.0, is_at_edge above.0 above.1, above.2),
      ) where
        not_is : (b : Bool) → not b ≡ true → b ≡ false
        not_is true e = absurd (false≢true e)
        not_is false e = refl

  pub at_most_once : AtLeast visits (IsAboveEdge h k a bs)
  at_most_once =
      let all =
      counted_number is_visited coats (λ p. is_visited (coat_at coats p) ≡ true) (λ p. ((λ e. e), (λ e. e)))
      (λ p e. tested_within is_visited refl coats p e) visits visiting.count in (
        all.0,
        all.2,
        all.1.once,
        All-weaker (Contains all.0) (IsAboveEdge h k a bs)
            (λ p contained. is_above_edge p ((all.1.those p).0 contained)) all.0 (All-contains_itself all.0),
      )
