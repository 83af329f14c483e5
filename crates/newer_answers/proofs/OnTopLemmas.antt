-- What a search over a base and newer commits answers, of all that the base may say.
use Rattle.std.proofs.Common.{◌≡◌, ℕ, ◌*◌, ◌<◌, ◌≤◌, List, [], ◌∷◌, All, Bool, IsTrue, IfNone, IfSome, IfOk, Option, None}
use Rattle.std.proofs.Common.{Some, Result, Ok, Err, Vec, ◌∙◌, length, refl, subst}
use Rattle.std.specs.Global.{Global}
use Rattle.std.proofs.lemmas.List.Elements.{All-cons, All-nil}
use Rattle.graph_walks.specs.History.{Node}
use Rattle.graph_walks.specs.Walks.{CountWalks, IsWalk, IsWalkBetween, Reaches}
use Rattle.graph_format.specs.declared.Position.{Position}
use Rattle.commit_search.specs.Positions.{numbers_of}
use Rattle.commit_search.specs.Ranks.{FallsAlongParents}
use Rattle.commit_search.specs.Source.{Told}
use Rattle.commit_search.specs.WalkAnswer.{IsAnswer, IsAnyAnswer, IsShortestWalk}
use Rattle.commit_search.specs.declared.Reached.{Reached}
use Rattle.graph_bases.specs.Bases.{IsCommonAncestor}
use Rattle.graph_bases.specs.Comparison.{IsComparisonBy, IsComparisonIn}
use Rattle.graph_bases.specs.declared.bases.Comparison.{Comparison}
use Rattle.newer_commits.specs.CommitsOnTop.{AreAfterParents, CommitsOnTop, end_of_top, nodes_on_top}
use Rattle.newer_commits.specs.JoinedHistory.{AreNumberedOnTop, joined_with}
use Rattle.newer_commits.proofs.HistoryLemmas.{joined_counts}
use Rattle.newer_commits.specs.RanksOnTop.{ranking_on_top}
use Rattle.newer_commits.proofs.RankLemmas.{falls_on_top}
use Rattle.newer_answers.specs.AnswersOnTop.{AreBasesOnTop, IsToldOnTop, LeadsOnTop, NeverLeadsOnTop, all_history}
use Rattle.newer_answers.proofs.KeptOnTopLemmas.{JoinedSays}
use Rattle.newer_answers.proofs.PlaceOnTopLemmas.{all_below}

-- each commit of a walk is there
walk_below : (h : List Node) (walk : List ℕ) → IsWalk h walk → All (λ p. p < length h) walk
walk_below h [] w = absurd w
walk_below h (p ∷ []) w = All-cons (λ (q : ℕ). q < length h) p [] w (All-nil (λ (q : ℕ). q < length h))
walk_below h (p ∷ q ∷ rest) w = All-cons (λ (k : ℕ). k < length h) p (q ∷ rest) w.0.0 (walk_below h (q ∷ rest) w.1)

module _ (says : Told → Type 0) (layer : ℕ) (top : CommitsOnTop)
    (numbered : (t : Told) → says t → AreNumberedOnTop t.history (nodes_on_top top)) where
  -- where the numbers of the base count walks, those of all commits do
  all_count : (t : Told) → says t → CountWalks t.history → CountWalks (all_history top t)
  all_count t said counts = joined_counts t.history (nodes_on_top top) counts (numbered t said)

  -- what is so of all that the source says
  of_all : (P : List Node → Type 0) → ((t : Told) → JoinedSays layer top says t → P t.history) → (t : Told) → says t
      → P (all_history top t)
  of_all P so t said = so (joined_with layer top t) (t, said, refl)

  pub told_answered : {E : Type 0} (first second : ℕ) (r : Result Bool E)
      → IfOk r (λ told. (t : Told) → JoinedSays layer top says t → IsTrue told → Reaches t.history second first)
      → IfOk r (λ told. (t : Told) → JoinedSays layer top says t → CountWalks t.history → Reaches t.history second first
      → IsTrue told) → IfOk r (IsToldOnTop says top first second)
  told_answered first second (Ok told) so not_so = record {
    yes = of_all (λ (h : List Node). IsTrue told → Reaches h second first) so;
    no = λ t said counts.
        of_all (λ (h : List Node). CountWalks h → Reaches h second first → IsTrue told) not_so t said (all_count t said counts);
  }
  told_answered first second (Err e) so not_so = tt

  module _ (from to : ℕ) (reached : Reached)
      (any : (t : Told) → JoinedSays layer top says t → IsAnyAnswer t.history from to reached)
      (right : (t : Told) → JoinedSays layer top says t → CountWalks t.history → IsAnswer t.history from to reached) where
    any_here : (t : Told) → says t → IsAnyAnswer (all_history top t) from to reached
    any_here t said = any (joined_with layer top t) (t, said, refl)

    right_here : (t : Told) → says t → CountWalks t.history → IsAnswer (all_history top t) from to reached
    right_here t said counts = right (joined_with layer top t) (t, said, refl) (all_count t said counts)

    leads_so : (walk : Vec Position Global) → reached.walk ≡ Some walk → LeadsOnTop says top from to (numbers_of walk.items)
    leads_so walk is = record {
      there = λ t said.
          subst
          (λ (w : Option (Vec Position Global)). IfSome w (λ v. IsWalkBetween (all_history top t) from to (numbers_of v.items)))
          is (any_here t said).walk;
      shortest = λ t said counts.
          subst
          (λ (w : Option (Vec Position Global)). IfSome w (λ v. IsShortestWalk (all_history top t) from to (numbers_of v.items)))
          is (right_here t said counts).walk;
    }

    never_so : reached.walk ≡ None → NeverLeadsOnTop says top from to
    never_so is = λ t said counts.
        subst (λ (w : Option (Vec Position Global)). IfNone w (¬ Reaches (all_history top t) from to)) is
        (right_here t said counts).none

    -- no history has a walk to a position that is not there
    never_past : (walk : Vec Position Global) (count : ℕ) → reached.walk ≡ Some walk
        → ((t : Told) → JoinedSays layer top says t → length t.history ≡ count)
        → (¬ All (λ (pos : Position). pos.0 < count) walk.items) → NeverLeadsOnTop says top from to
    never_past walk count is many past = λ t said counts.
        let between = (leads_so walk is).there t said in
        let below = walk_below (all_history top t) (numbers_of walk.items) between.is_walk in
        let all = of_all (λ (h : List Node). length h ≡ count) many t said in
        absurd (past
        (all_below count walk.items (subst (λ (n : ℕ). All (λ (p : ℕ). p < n) (numbers_of walk.items)) all below)))

    -- what is kept of a walk, unless it has a position that is not there
    pub leads_kept : (kept : Option (Vec Position Global)) → IfSome kept (λ w. reached.walk ≡ Some w)
        → IfSome kept (λ w. LeadsOnTop says top from to (numbers_of w.items))
    leads_kept None is = tt
    leads_kept (Some w) is = leads_so w is

    never_at : (count : ℕ) (found : Option (Vec Position Global)) → reached.walk ≡ found
        → ((t : Told) → JoinedSays layer top says t → length t.history ≡ count)
        → IfSome found (λ w. ¬ All (λ (pos : Position). pos.0 < count) w.items) → NeverLeadsOnTop says top from to
    never_at count None is many past = never_so is
    never_at count (Some w) is many past = never_past w count is many past

    pub never_kept : (count : ℕ) (kept : Option (Vec Position Global))
        → ((t : Told) → JoinedSays layer top says t → length t.history ≡ count)
        → IfNone kept (IfSome reached.walk (λ w. ¬ All (λ (pos : Position). pos.0 < count) w.items))
        → IfNone kept (NeverLeadsOnTop says top from to)
    never_kept count None many past = never_at count reached.walk refl many past
    never_kept count (Some w) many past = tt

  pub bases_so : {E : Type 0} (first : ℕ) (others : List ℕ) (r : Result Comparison E)
      → IfOk r (λ compared. compared.bases.visits ≤ 3 * end_of_top top)
      → IfOk r (λ compared. (t : Told) → JoinedSays layer top says t
      → All (λ base. IsCommonAncestor t.history first others base.0) compared.bases.positions.items)
      → IfOk r (λ compared. (t : Told) → JoinedSays layer top says t → CountWalks t.history
      → IsComparisonIn t.history first others compared) → IfOk r (AreBasesOnTop says top None first others)
  bases_so first others (Ok compared) visits common exact = record {
    common = λ t said. common (joined_with layer top t) (t, said, refl);
    exact = λ t said counts. exact (joined_with layer top t) (t, said, refl) (all_count t said counts);
    visits = visits;
  }
  bases_so first others (Err e) visits common exact = tt

-- the same of a search that goes by the dates of the base
module _ (says : Told → Type 0) (layer : ℕ) (top : CommitsOnTop) (dates : List ℕ)
    (many : (t : Told) → says t → length t.history ≡ top.below) (after : AreAfterParents top) where
  pub ranked_so : {E : Type 0} (first : ℕ) (others : List ℕ) (r : Result Comparison E)
      → IfOk r (λ compared. compared.bases.visits ≤ 3 * end_of_top top)
      → IfOk r (λ compared. (t : Told) → JoinedSays layer top says t
      → All (λ base. IsCommonAncestor t.history first others base.0) compared.bases.positions.items)
      → IfOk r (λ compared. (t : Told) → JoinedSays layer top says t → FallsAlongParents t.history (ranking_on_top dates)
      → IsComparisonBy t.history (ranking_on_top dates) first others compared)
      → IfOk r (AreBasesOnTop says top (Some dates) first others)
  ranked_so first others (Ok compared) visits common exact = record {
    common = λ t said. common (joined_with layer top t) (t, said, refl);
    exact = λ t said right.
        exact (joined_with layer top t) (t, said, refl)
        (falls_on_top t.history top dates (many t said) (right.0 ∙ many t said) after right.1);
    visits = visits;
  }
  ranked_so first others (Err e) visits common exact = tt

-- what is so of all that may be said is so of less
pub leads_less : (says after : Told → Type 0) (top : CommitsOnTop) (from to : ℕ) (walk : List ℕ) → ((t : Told) → after t → says t)
    → LeadsOnTop says top from to walk → LeadsOnTop after top from to walk
leads_less says after top from to walk kept leads = record {
  there = λ t said. leads.there t (kept t said);
  shortest = λ t said counts. leads.shortest t (kept t said) counts;
}

pub bases_less : (says after : Told → Type 0) (top : CommitsOnTop) (dates : Option (List ℕ)) (first : ℕ) (others : List ℕ)
    (compared : Comparison) → ((t : Told) → after t → says t) → AreBasesOnTop says top dates first others compared
    → AreBasesOnTop after top dates first others compared
bases_less says after top dates first others compared kept are = record {
  common = λ t said. are.common t (kept t said);
  exact = λ t said right. are.exact t (kept t said) right;
  visits = are.visits;
}
