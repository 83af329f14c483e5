-- How many commits a painting visits, also at the cap.
use Rattle.std.proofs.Common.{◌≡◌, ℕ, ◌+◌, ◌*◌, ◌<◌, ◌≤◌, List, [], ◌∷◌, Bool, true, false, not, length, set, cond}
use Rattle.std.proofs.Common.{sum_by, count_by, Contains, refl, ap, inl, inr, ⊎_elim, arith, lit<}
use Rattle.std.proofs.lemmas.Bool.{true≢false, false≢true, cases_Bool, both_ways, and_from}
use Rattle.std.proofs.lemmas.List.Elements.{All-weaker, All-contains, All-contains_itself}
use Rattle.std.proofs.lemmas.List.Sums.{sum_by-cons, sum_by-set, count_by-le-length}
use Rattle.graph_walks.specs.History.{Node}
use Rattle.commit_search.specs.Cardinality.{AtLeast, AtMost}
use Rattle.commit_search.proofs.CardinalityLemmas.{no_more}
use Rattle.graph_bases.specs.Bases.{IsReached, IsCommonAncestor, IsBelowCommon, HasToBeVisited, IsOnOneSide}
use Rattle.graph_bases.specs.Bases.{IsMergeBase, AreBelowCap, IsAboveEdge, AreVisitsBy}
use Rattle.commit_search.specs.Ranks.{Ranking}
use Rattle.graph_bases.specs.declared.paint.Coat.{Coat}
use Rattle.graph_bases.specs.declared.paint.Paint.{Paint}
use Rattle.graph_bases.specs.declared.paint.Paint.TheVariants.{Bare, First, Others, Both, Stale}
use Rattle.graph_bases.specs.Paint.{first_leads, others_lead, is_painted, is_stale, is_visited, covers, joined, known, bare}
use Rattle.graph_bases.specs.Paint.{coat_at, paint_at, is_queued, IsPaint}
use Rattle.graph_bases.specs.Painting.{IsVisitCount, IsPainted, IsDone}
use Rattle.graph_bases.proofs.EdgeLemmas.{none_counted, unvisited_queued}
use Rattle.graph_bases.proofs.FoundLemmas.{counted_number, tested_within}
use Rattle.graph_bases.proofs.PaintLemmas.{painted_leads, ahead_live, behind_live, base_live}

-- paint that is joined to what does not say it makes more known
joined_more : (x y : Paint) → covers x y ≡ false → known x < known (joined x y)
joined_more Bare Bare e = absurd (true≢false e)
joined_more Bare First e = lit< tt
joined_more Bare Others e = lit< tt
joined_more Bare Both e = lit< tt
joined_more Bare Stale e = lit< tt
joined_more First Bare e = absurd (true≢false e)
joined_more First First e = absurd (true≢false e)
joined_more First Others e = lit< tt
joined_more First Both e = lit< tt
joined_more First Stale e = lit< tt
joined_more Others Bare e = absurd (true≢false e)
joined_more Others First e = lit< tt
joined_more Others Others e = absurd (true≢false e)
joined_more Others Both e = lit< tt
joined_more Others Stale e = lit< tt
joined_more Both Stale e = lit< tt
joined_more Both _ e = absurd (true≢false e)
joined_more Stale Bare e = absurd (true≢false e)
joined_more Stale _ e = absurd (true≢false e)

-- both sides lead to a commit
leads_both : Paint → Bool
leads_both Both = true
leads_both Stale = true
leads_both _ = false

both_lead : (x : Paint) → leads_both x ≡ true → (first_leads x ≡ true) × (others_lead x ≡ true)
unfolding leads_both
both_lead Both e = (refl, refl)
both_lead Stale e = (refl, refl)
both_lead _ e = absurd (false≢true e)

-- Nothing is visited yet.
pub count_none : (coats : List Coat) → ((p : ℕ) → coat_at coats p ≡ bare) → IsVisitCount coats 0
count_none coats none = record {
  most = let queued = none_counted [] 0 [] coats none (λ (m : Coat). m.queued) refl in omega arith;
  least = let visited = none_counted [] 0 [] coats none is_visited refl in omega arith;
}

-- Paint was added to a commit, which is queued then.
pub count_added : (coats after : List Coat) (p : ℕ) (x : Paint) (visits : ℕ) (new : Coat) → p < length coats
    → new ≡ record { paint = joined (paint_at coats p) x; queued = true } → after ≡ set coats p new
    → covers (paint_at coats p) x ≡ false → IsVisitCount coats visits → IsVisitCount after visits
count_added coats after p x visits new inside is_new is_after uncovered old =
    let queues : Coat → ℕ = λ m. cond m.queued 1 0 in
    let knows : Coat → ℕ = λ m. known m.paint in
    let visited : Coat → ℕ = λ m. cond (is_visited m) 1 0 in
    let is_queued : new.queued ≡ true = ap (λ (m : Coat). m.queued) is_new in record {
      most =
          let before = old.most in
          let sums = sum_by-set queues coats p new bare inside in
          let now : sum_by queues after ≡ sum_by queues (set coats p new) = ap (sum_by queues) is_after in
          let one : queues new ≡ 1 = ap queues is_new in
          let known_sums = sum_by-set knows coats p new bare inside in
          let known_now : sum_by knows after ≡ sum_by knows (set coats p new) = ap (sum_by knows) is_after in
          let same : knows new ≡ known (joined (paint_at coats p) x) = ap knows is_new in
          let more = joined_more (paint_at coats p) x uncovered in
          omega arith;
      least =
          let before = old.least in
          let sums = sum_by-set visited coats p new bare inside in
          let now : sum_by visited after ≡ sum_by visited (set coats p new) = ap (sum_by visited) is_after in
          let none : visited new ≡ 0 = ap (λ (b : Bool). cond {A = ℕ} b 1 0) (unvisited_queued new is_queued) in
          omega arith;
    }

-- A commit was taken from the queue, and is visited once more.
pub count_taken : (coats after : List Coat) (p visits now : ℕ) (coat : Coat) → p < length coats
    → coat ≡ record { paint = paint_at coats p; queued = false } → after ≡ set coats p coat → is_queued coats p ≡ true
    → now ≤ visits + 1 → count_by is_visited coats < now → IsVisitCount coats visits → IsVisitCount after now
count_taken coats after p visits now coat inside is_coat is_after queued no_more some old =
    let queues : Coat → ℕ = λ m. cond m.queued 1 0 in
    let knows : Coat → ℕ = λ m. known m.paint in
    let visited : Coat → ℕ = λ m. cond (is_visited m) 1 0 in record {
      most =
          let before = old.most in
          let sums = sum_by-set queues coats p coat bare inside in
          let queues_now : sum_by queues after ≡ sum_by queues (set coats p coat) = ap (sum_by queues) is_after in
          let was : queues (coat_at coats p) ≡ 1 = ap (λ (b : Bool). cond {A = ℕ} b 1 0) queued in
          let none : queues coat ≡ 0 = ap queues is_coat in
          let known_sums = sum_by-set knows coats p coat bare inside in
          let known_now : sum_by knows after ≡ sum_by knows (set coats p coat) = ap (sum_by knows) is_after in
          let same : knows coat ≡ known (paint_at coats p) = ap knows is_coat in
          omega arith;
      least =
          let sums = sum_by-set visited coats p coat bare inside in
          let visited_now : sum_by visited after ≡ sum_by visited (set coats p coat) = ap (sum_by visited) is_after in
          let one = at_most_one (is_visited coat) in
          omega arith;
    } where
      at_most_one : (b : Bool) → cond {A = ℕ} b 1 0 ≤ 1
      at_most_one true = omega arith
      at_most_one false = omega arith

known_of_one : (x : Paint) → known x ≤ 3 * cond {A = ℕ} (is_painted x) 1 0
known_of_one Bare = omega arith
known_of_one First = omega arith
known_of_one Others = omega arith
known_of_one Both = omega arith
known_of_one Stale = omega arith

-- each commit of which something is known has come to say more three times at most
known_of_all : (coats : List Coat)
    → sum_by (λ (m : Coat). known m.paint) coats ≤ 3 * count_by (λ (m : Coat). is_painted m.paint) coats
known_of_all [] = omega arith
known_of_all (c ∷ cs) =
    let knows = sum_by-cons (λ (m : Coat). known m.paint) c cs in
    let paints = sum_by-cons (λ (m : Coat). cond {A = ℕ} (is_painted m.paint) 1 0) c cs in
    let one = known_of_one c.paint in
    let rest = known_of_all cs in
    omega arith

pub visits_bound : (coats : List Coat) (visits : ℕ) → IsVisitCount coats visits → visits ≤ 3 * length coats
visits_bound coats visits count =
    let most = count.most in
    let bound = known_of_all coats in
    let painted = count_by-le-length (λ (m : Coat). is_painted m.paint) coats in
    omega arith

-- what is known of a commit: that it is reached, that both sides lead to it, and that it lies below a common ancestor
known_parts : (x : Paint) → known x
    ≡ cond {A = ℕ} (is_painted x) 1 0 + cond {A = ℕ} (leads_both x) 1 0 + cond {A = ℕ} (is_stale x) 1 0
unfolding leads_both
known_parts Bare = refl
known_parts First = refl
known_parts Others = refl
known_parts Both = refl
known_parts Stale = refl

known_of_parts : (coats : List Coat) → sum_by (λ (m : Coat). known m.paint) coats
    ≡ count_by (λ (m : Coat). is_painted m.paint) coats + count_by (λ (m : Coat). leads_both m.paint) coats
    + count_by (λ (m : Coat). is_stale m.paint) coats
known_of_parts [] = refl
known_of_parts (c ∷ cs) =
    let knows = sum_by-cons (λ (m : Coat). known m.paint) c cs in
    let paints = sum_by-cons (λ (m : Coat). cond {A = ℕ} (is_painted m.paint) 1 0) c cs in
    let boths = sum_by-cons (λ (m : Coat). cond {A = ℕ} (leads_both m.paint) 1 0) c cs in
    let stales = sum_by-cons (λ (m : Coat). cond {A = ℕ} (is_stale m.paint) 1 0) c cs in
    let one = known_parts c.paint in
    let rest = known_of_parts cs in
    omega arith

-- as many commits have a property as coats say so
counted_by_coats : (coats : List Coat) (t : Coat → Bool) → t bare ≡ false → (P : ℕ → Type 0)
    → ((p : ℕ) → t (coat_at coats p) ≡ true → P p) → AtLeast (count_by t coats) P
counted_by_coats coats t none P says =
    let all =
    counted_number t coats (λ p. t (coat_at coats p) ≡ true) (λ p. ((λ e. e), (λ e. e)))
    (λ p e. tested_within t none coats p e) (count_by t coats) refl in (
      all.0,
      all.2,
      all.1.once,
      All-weaker (Contains all.0) P (λ p contained. says p ((all.1.those p).0 contained)) all.0 (All-contains_itself all.0),
    )

module _ (h : List Node) (a : ℕ) (bs : List ℕ) (coats : List Coat) (visits : ℕ) (paint : IsPaint h a bs coats)
    (count : IsVisitCount coats visits) where
  -- no more than are reached, with common ancestors once more, and a third time those below another one
  as_often_as_known : (reached common below : ℕ) × AtLeast reached (IsReached h a bs) × AtLeast common (IsCommonAncestor h a bs)
      × AtLeast below (IsBelowCommon h a bs) × (visits ≤ reached + common + below)
  unfolding leads_both
  as_often_as_known =
      let most = count.most in
      let parts = known_of_parts coats in (
        count_by (λ (m : Coat). is_painted m.paint) coats,
        count_by (λ (m : Coat). leads_both m.paint) coats,
        count_by (λ (m : Coat). is_stale m.paint) coats,
        counted_by_coats coats (λ m. is_painted m.paint) refl (IsReached h a bs) is_reached,
        counted_by_coats coats (λ m. leads_both m.paint) refl (IsCommonAncestor h a bs) is_common,
        counted_by_coats coats (λ m. is_stale m.paint) refl (IsBelowCommon h a bs) (λ p stale. (paint.each p).stale stale),
        omega arith,
      )
    where
      is_reached : (p : ℕ) → is_painted (paint_at coats p) ≡ true → IsReached h a bs p
      is_reached p painted =
          ⊎_elim
          (λ e. inl ((paint.each p).first e))
          (λ e. inr ((paint.each p).others e))
          (painted_leads (paint_at coats p) painted)

      is_common : (p : ℕ) → leads_both (paint_at coats p) ≡ true → IsCommonAncestor h a bs p
      is_common p both =
          let sides = both_lead (paint_at coats p) both in
          ((paint.each p).first sides.0, (paint.each p).others sides.1)

-- What was visited at the end.
module _ {h : List Node} {k : Ranking} {a : ℕ} {bs : List ℕ} {coats : List Coat} {visits : ℕ}
    (painted : IsPainted h a bs coats) (paint : IsPaint h a bs coats) (done : IsDone k coats) (count : IsVisitCount coats visits)
    (capped : (p : ℕ) → IsReached h a bs p → k.cap ≤ k.rank p → is_visited (coat_at coats p) ≡ true) where
  -- one that is not stale is not queued any more
  live_visited : (p : ℕ) → (is_painted (paint_at coats p) ≡ true) × (is_stale (paint_at coats p) ≡ false)
      → is_visited (coat_at coats p) ≡ true
  live_visited p live =
      ⊎_elim
      (λ (queued : is_queued coats p ≡ true).
      absurd (both_ways (is_stale (paint_at coats p)) live.1 (done.queued p queued)))
      (λ (settled : is_queued coats p ≡ false).
      and_from (is_painted (paint_at coats p)) (not (is_queued coats p)) live.0 (ap not settled))
      (cases_Bool (is_queued coats p))

  was_visited : (p : ℕ) → HasToBeVisited h k a bs p → is_visited (coat_at coats p) ≡ true
  was_visited p told =
      ⊎_elim
      (λ (side : IsOnOneSide h a bs p).
      ⊎_elim
      (λ ahead. live_visited p (ahead_live (paint_at coats p) ((painted.ahead p).1 ahead)))
      (λ behind. live_visited p (behind_live (paint_at coats p) ((painted.behind p).1 behind)))
      side)
      (λ more.
      ⊎_elim
      (λ (base : IsMergeBase h a bs p). live_visited p (base_live (paint_at coats p) ((painted.base p).1 base)))
      (λ high. capped p high.0 high.1)
      more)
      told

  no_fewer : AtMost visits (HasToBeVisited h k a bs)
  no_fewer ps once all =
      let those =
      counted_number is_visited coats (λ p. is_visited (coat_at coats p) ≡ true) (λ p. ((λ e. e), (λ e. e)))
      (λ p e. tested_within is_visited refl coats p e) (count_by is_visited coats) refl in
      let least = count.least in
      let bound =
      no_more ps those.0 once
      (λ p contained. (those.1.those p).1 (was_visited p (All-contains (HasToBeVisited h k a bs) ps p all contained))) in
      let len = those.2 in
      omega arith

  pub visits_told : (AreBelowCap k a bs → AtLeast visits (IsAboveEdge h k a bs)) → AreVisitsBy h k a bs visits
  visits_told once = record { most = as_often_as_known h a bs coats visits paint count; least = no_fewer; below_cap = once }
