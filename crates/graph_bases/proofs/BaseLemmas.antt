-- What the paint says when all that are queued are stale: it has found the best common ancestors.
use Rattle.std.proofs.Common.{◌≡◌, ◌⊎◌, ℕ, ◌+◌, ◌<◌, ◌≤◌, zero, suc, List, true, false, not, ap, ◌∙◌, inr, ⊎_elim, arith}
use Rattle.std.proofs.lemmas.Bool.{cases_Bool, both_ways, false_from_ne_true, and_from}
use Rattle.graph_walks.specs.declared.TheConstants.{GENERATION_NUMBER_MAX}
use Rattle.graph_walks.specs.History.{Node, generation_at}
use Rattle.graph_walks.specs.Walks.{Reaches, IsProperAncestor}
use Rattle.graph_bases.specs.declared.paint.Coat.{Coat}
use Rattle.graph_bases.specs.declared.paint.Paint.{Paint}
use Rattle.graph_bases.specs.declared.paint.Paint.TheVariants.{First, Others, Both}
use Rattle.graph_bases.specs.Bases.{IsReachedFromSome, IsCommonAncestor, IsMergeBase, IsAhead, IsBehind, IsReached}
use Rattle.graph_bases.specs.Paint.{is_ahead, is_behind, is_base, first_leads, others_lead, is_stale, is_painted, passed}
use Rattle.graph_bases.specs.Paint.{coat_at, paint_at, is_queued, is_visited, IsPaint}
use Rattle.graph_bases.specs.Paint.{Grows}
use Rattle.graph_bases.specs.Painting.{IsSpread, IsDone, IsPainted}
use Rattle.commit_search.specs.Ranks.{Ranking, FallsAlongParents}
use Rattle.graph_bases.proofs.ReachLemmas.{proper_reaches, proper_then, reaches_then, from_some_then, IsBelowQueued, carried}
use Rattle.graph_bases.proofs.ReachLemmas.{first_step}
use Rattle.commit_search.proofs.RankLemmas.{never_rises, falls_along}
use Rattle.graph_bases.proofs.PaintLemmas.{stale_first, stale_others, both_of, first_of, others_of, is_both, is_first}
use Rattle.graph_bases.proofs.PaintLemmas.{is_others, passed_says}
use Rattle.graph_bases.proofs.PaintLemmas.{first_painted, others_painted}

-- what a commit passes on
module _ (x y : Paint) (grows : Grows (passed x) y) where
  pub passes_first : first_leads x ≡ true → first_leads y ≡ true
  passes_first e = grows.first ((passed_says x).0 ∙ e)

  pub passes_others : others_lead x ≡ true → others_lead y ≡ true
  passes_others e = grows.others ((passed_says x).1 ∙ e)

  pub passes_both : first_leads x ≡ true → others_lead x ≡ true → is_stale y ≡ true
  passes_both e f = grows.stale ((passed_says x).2 ∙ and_from (first_leads x) (others_lead x) e f)

-- A painting that has ended, of a history whose ranks fall along parents.
pub record HasEnded (h : List Node) (k : Ranking) (a : ℕ) (bs : List ℕ) (coats : List Coat) : Type 0 where
  pub paint : IsPaint h a bs coats
  pub spread : IsSpread h a bs coats
  pub done : IsDone k coats
  pub along : FallsAlongParents h k

module _ {h : List Node} {k : Ranking} {a : ℕ} {bs : List ℕ} {coats : List Coat} (ended : HasEnded h k a bs coats) where
  open ended use {paint, spread, done, along}

  queued_is_common : (p : ℕ) → is_queued coats p ≡ true → IsCommonAncestor h a bs p
  queued_is_common p queued =
      let stale = done.queued p queued in (
        (paint.each p).first (stale_first (paint_at coats p) stale),
        (paint.each p).others (stale_others (paint_at coats p) stale),
      )

  -- a painted commit that is not stale is below none that is queued
  not_below : (p : ℕ) → is_stale (paint_at coats p) ≡ false → is_painted (paint_at coats p) ≡ true
      → IsBelowQueued h (is_queued coats) p → ⊥
  not_below p fresh painted below =
      let x = below.0 in
      let low = done.below x below.1 in
      let cap = done.uncapped x below.1 in
      ⊎_elim
      (λ (t : is_queued coats p ≡ true). both_ways (is_stale (paint_at coats p)) fresh (done.queued p t))
      (λ (f : is_queued coats p ≡ false).
      let high = done.above p f painted in
      let rise = never_rises along x p (proper_reaches h x p below.2) in
      let fall = falls_along along x p below.2 (omega arith) in
      absurd (omega arith))
      (cases_Bool (is_queued coats p))

  first_comes : (p : ℕ) → Reaches h a p → (first_leads (paint_at coats p) ≡ true) ⊎ IsBelowQueued h (is_queued coats) p
  first_comes p reaches =
      carried h (is_queued coats) (λ x. first_leads (paint_at coats x) ≡ true)
      (λ x y settled parent e. passes_first (paint_at coats x) (paint_at coats y) (spread.passes x y settled parent) e) a p
      reaches spread.first

  others_come : (p : ℕ) → IsReachedFromSome h bs p → (others_lead (paint_at coats p) ≡ true) ⊎ IsBelowQueued h (is_queued coats) p
  others_come p (s, start, reaches) =
      carried h (is_queued coats) (λ x. others_lead (paint_at coats x) ≡ true)
      (λ x y settled parent e. passes_others (paint_at coats x) (paint_at coats y) (spread.passes x y settled parent) e) s p
      reaches (spread.others s start)

  stale_comes : (p q : ℕ) → Reaches h p q → is_stale (paint_at coats p) ≡ true
      → (is_stale (paint_at coats q) ≡ true) ⊎ IsBelowQueued h (is_queued coats) q
  stale_comes p q reaches stale =
      carried h (is_queued coats) (λ x. is_stale (paint_at coats x) ≡ true)
      (λ x y settled parent e. passes_both (paint_at coats x) (paint_at coats y) (spread.passes x y settled parent)
      (stale_first (paint_at coats x) e) (stale_others (paint_at coats x) e)) p q reaches stale

  -- a commit below one to which both lead is stale, or below one that is queued
  below_is_stale : (c p : ℕ) → first_leads (paint_at coats c) ≡ true → others_lead (paint_at coats c) ≡ true
      → IsProperAncestor h c p → (is_stale (paint_at coats p) ≡ true) ⊎ IsBelowQueued h (is_queued coats) p
  below_is_stale c p first others proper =
      ⊎_elim
      (λ (t : is_queued coats c ≡ true). inr (c, t, proper))
      (λ (f : is_queued coats c ≡ false).
      let step = first_step h c p proper in
      stale_comes step.0 p step.2
      (passes_both (paint_at coats c) (paint_at coats step.0) (spread.passes c step.0 f step.1) first others))
      (cases_Bool (is_queued coats c))

  below_further : (c p : ℕ) → IsBelowQueued h (is_queued coats) c → IsProperAncestor h c p → IsBelowQueued h (is_queued coats) p
  below_further c p below proper = (below.0, below.1, proper_then h below.0 c p below.2 (proper_reaches h c p proper))

  -- what is painted for both and is not stale is below no common ancestor
  both_is_best : (p : ℕ) → paint_at coats p ≡ Both → (c : ℕ) → IsCommonAncestor h a bs c → ¬ IsProperAncestor h c p
  both_is_best p both c common proper =
      let not : is_stale (paint_at coats p) ≡ false = ap is_stale both in
      let out : IsBelowQueued h (is_queued coats) p → ⊥ = not_below p not (ap is_painted both) in
      ⊎_elim
      (λ (first : first_leads (paint_at coats c) ≡ true).
      ⊎_elim
      (λ (others : others_lead (paint_at coats c) ≡ true).
      ⊎_elim
      (λ (stale : is_stale (paint_at coats p) ≡ true). both_ways (is_stale (paint_at coats p)) not stale)
      out
      (below_is_stale c p first others proper))
      (λ (below : IsBelowQueued h (is_queued coats) c). out (below_further c p below proper))
      (others_come c common.1))
      (λ (below : IsBelowQueued h (is_queued coats) c). out (below_further c p below proper))
      (first_comes c common.0)

  both_is_base : (p : ℕ) → paint_at coats p ≡ Both → IsMergeBase h a bs p
  both_is_base p both = record {
    common = ((paint.each p).first (ap first_leads both), (paint.each p).others (ap others_lead both));
    best = both_is_best p both;
  }

  not_below_base : (p : ℕ) → IsMergeBase h a bs p → IsBelowQueued h (is_queued coats) p → ⊥
  not_below_base p base below = base.best below.0 (queued_is_common below.0 below.1) below.2

  base_is_both : (p : ℕ) → IsMergeBase h a bs p → paint_at coats p ≡ Both
  base_is_both p base =
      both_of (paint_at coats p)
      (⊎_elim (λ (e : first_leads (paint_at coats p) ≡ true). e)
      (λ (below : IsBelowQueued h (is_queued coats) p). absurd (not_below_base p base below)) (first_comes p base.common.0))
      (⊎_elim (λ (e : others_lead (paint_at coats p) ≡ true). e)
      (λ (below : IsBelowQueued h (is_queued coats) p). absurd (not_below_base p base below)) (others_come p base.common.1))
      (false_from_ne_true (is_stale (paint_at coats p)) (λ (stale : is_stale (paint_at coats p) ≡ true).
      let above = (paint.each p).stale stale in base.best above.0 above.1 above.2))

  first_is_ahead : (p : ℕ) → paint_at coats p ≡ First → IsAhead h a bs p
  first_is_ahead p is = (
    (paint.each p).first (ap first_leads is),
    (λ reaches.
        ⊎_elim
        (λ (e : others_lead (paint_at coats p) ≡ true). both_ways (others_lead (paint_at coats p)) (ap others_lead is) e)
        (not_below p (ap is_stale is) (ap is_painted is))
        (others_come p reaches)),
  )

  ahead_is_first : (p : ℕ) → IsAhead h a bs p → paint_at coats p ≡ First
  ahead_is_first p alone =
      first_of (paint_at coats p)
      (⊎_elim (λ (e : first_leads (paint_at coats p) ≡ true). e)
      (λ (below : IsBelowQueued h (is_queued coats) p). absurd (alone.1
      (from_some_then h bs below.0 p (queued_is_common below.0 below.1).1 (proper_reaches h below.0 p below.2))))
      (first_comes p alone.0))
      (false_from_ne_true (others_lead (paint_at coats p)) (λ (e : others_lead (paint_at coats p) ≡ true).
      alone.1 ((paint.each p).others e)))

  others_is_behind : (p : ℕ) → paint_at coats p ≡ Others → IsBehind h a bs p
  others_is_behind p is = (
    (paint.each p).others (ap others_lead is),
    (λ reaches.
        ⊎_elim
        (λ (e : first_leads (paint_at coats p) ≡ true). both_ways (first_leads (paint_at coats p)) (ap first_leads is) e)
        (not_below p (ap is_stale is) (ap is_painted is))
        (first_comes p reaches)),
  )

  behind_is_others : (p : ℕ) → IsBehind h a bs p → paint_at coats p ≡ Others
  behind_is_others p alone =
      others_of (paint_at coats p)
      (⊎_elim (λ (e : others_lead (paint_at coats p) ≡ true). e)
      (λ (below : IsBelowQueued h (is_queued coats) p). absurd (alone.1
      (reaches_then h a below.0 p (queued_is_common below.0 below.1).0 (proper_reaches h below.0 p below.2))))
      (others_come p alone.0))
      (false_from_ne_true (first_leads (paint_at coats p)) (λ (e : first_leads (paint_at coats p) ≡ true).
      alone.1 ((paint.each p).first e)))

  not_capped_below : (p : ℕ) → k.cap ≤ k.rank p → IsBelowQueued h (is_queued coats) p → ⊥
  not_capped_below p high below =
      let low = done.uncapped below.0 below.1 in
      let rise = never_rises along below.0 p (proper_reaches h below.0 p below.2) in
      absurd (omega arith)

  capped_painted : (p : ℕ) → IsReached h a bs p → k.cap ≤ k.rank p → is_painted (paint_at coats p) ≡ true
  capped_painted p reached high =
      ⊎_elim
      (λ (reaches : Reaches h a p).
      ⊎_elim
      (λ (e : first_leads (paint_at coats p) ≡ true). first_painted (paint_at coats p) e)
      (λ (below : IsBelowQueued h (is_queued coats) p). absurd (not_capped_below p high below))
      (first_comes p reaches))
      (λ (some : IsReachedFromSome h bs p).
      ⊎_elim
      (λ (e : others_lead (paint_at coats p) ≡ true). others_painted (paint_at coats p) e)
      (λ (below : IsBelowQueued h (is_queued coats) p). absurd (not_capped_below p high below))
      (others_come p some))
      reached

  -- one that is reached at the cap was visited
  pub capped_visited : (p : ℕ) → IsReached h a bs p → k.cap ≤ k.rank p
      → is_visited (coat_at coats p) ≡ true
  capped_visited p reached high =
      ⊎_elim
      (λ (queued : is_queued coats p ≡ true). let low = done.uncapped p queued in absurd (omega arith))
      (λ (settled : is_queued coats p ≡ false).
      and_from (is_painted (paint_at coats p)) (not (is_queued coats p)) (capped_painted p reached high) (ap not settled))
      (cases_Bool (is_queued coats p))

  pub painted_is_exact : IsPainted h a bs coats
  painted_is_exact = record {
    coats_len = paint.coats_len;
    base = λ p. ((λ e. both_is_base p (is_both (paint_at coats p) e)), (λ base. ap is_base (base_is_both p base)));
    ahead = λ p. ((λ e. first_is_ahead p (is_first (paint_at coats p) e)), (λ ahead. ap is_ahead (ahead_is_first p ahead)));
    behind = λ p. (
      (λ e. others_is_behind p (is_others (paint_at coats p) e)),
      (λ behind. ap is_behind (behind_is_others p behind)),
    );
  }

-- Where a's number is below the cap, common ancestors have a best one.
module _ (h : List Node) (a : ℕ) (bs : List ℕ) (uncapped : generation_at h a < GENERATION_NUMBER_MAX)
    (rises : (p q : ℕ) → Reaches h p q → generation_at h q ≤ generation_at h p)
    (falls : (p q : ℕ) → IsProperAncestor h p q → generation_at h q < GENERATION_NUMBER_MAX
    → generation_at h q < generation_at h p) (none : (p : ℕ) → ¬ IsMergeBase h a bs p) where
  none_above : (n p : ℕ) → generation_at h a ≤ generation_at h p + n → IsCommonAncestor h a bs p → ⊥
  none_above zero p near common =
      none p (record {
        common = common;
        best = λ q above proper.
            (let high = rises a q above.0 in
            let low = rises q p (proper_reaches h q p proper) in
            let fall = falls q p proper (omega arith) in
            absurd (omega arith));
      })
  none_above (suc n) p near common =
      none p (record {
        common = common;
        best = λ q above proper.
            (let high = rises a q above.0 in
            let low = rises q p (proper_reaches h q p proper) in
            let fall = falls q p proper (omega arith) in
            none_above n q (omega arith) above);
      })

  pub no_common_without_base : (p : ℕ) → IsCommonAncestor h a bs p → ⊥
  no_common_without_base p common = none_above (generation_at h a) p (omega arith) common
