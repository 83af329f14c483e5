-- A search depth first, as it visits commits.
use Rattle.std.proofs.Common.{◌≡◌, ◌≢◌, ◌⊎◌, ℕ, zero, suc, ◌+◌, ◌<◌, ◌≤◌, List, [], ◌∷◌, ◌++◌, length, Contains, sym, ap, ◌∙◌}
use Rattle.std.proofs.Common.{subst, inl, inr, ⊎_elim, arith}
use Rattle.std.proofs.lemmas.Bool.{cases_lt}
use Rattle.std.proofs.lemmas.List.Elements.{Contains-push, Contains-push_cases, Contains-append_left}
use Rattle.graph_walks.specs.History.{Node, IsParent, generation_at}
use Rattle.graph_walks.specs.Walks.{Reaches}
use Rattle.commit_search.specs.Marks.{Marked}
use Rattle.commit_search.specs.Queue.{IsQueue, IsQueued, Extends, QueuesParents, Depth, commit_in, child_in}
use Rattle.commit_search.proofs.QueueLemmas.{commit_extends, child_extends, queued_extends}
use Rattle.commit_search.proofs.ShortestWalkLemmas.{all_queued}

-- the places of the queue that are on the stack
abbrev pub ArePlaces : List Marked → List ℕ → Type 0
ArePlaces queued stack = (i : ℕ) → Contains stack i → i < length queued

-- Each commit that was reached is yet to be visited, or its parents were reached and it is not the one that is looked for.
abbrev pub IsDescent : List Node → ℕ → ℕ → List Marked → List ℕ → Type 0
IsDescent h least to queued stack =
    (i : ℕ) → i < length queued → Contains stack i ⊎ (QueuesParents h least queued i × (commit_in queued i ≢ to))

-- at first the stack has the first place alone
module _ (queued : List Marked) (stack : List ℕ) (one : length queued ≡ 1)
    (only : (i : ℕ) → Contains stack i → i < 1) (here : Contains stack 0) where
  pub places_begin : ArePlaces queued stack
  places_begin i contained = omega (arith, only i contained)

  pub descent_begins : (h : List Node) (least to : ℕ) → IsDescent h least to queued stack
  descent_begins h least to i lt =
      let first : 0 ≡ i = omega arith in inl (subst (λ (k : ℕ). Contains stack k) first here)

-- the place that is taken from the stack
pub taken_within : (queued : List Marked) (before rest : List ℕ) (place : ℕ)
    → before ≡ rest ++ place ∷ [] → ArePlaces queued before → place < length queued
taken_within queued before rest place split places =
    places place (subst (λ (xs : List ℕ). Contains xs place) (sym split) (Contains-push rest place))

pub places_go_on : (a b : List Marked) (before rest after : List ℕ) (place : ℕ)
    → before ≡ rest ++ place ∷ [] → ArePlaces a before → Extends a b place
    → ((i : ℕ) → Contains after i → Contains rest i ⊎ (i < length b)) → ArePlaces b after
places_go_on a b before rest after place split places extends only i contained =
    ⊎_elim
    (λ (was : Contains rest i).
    let at = Contains-append_left rest (place ∷ []) i was in
    let lt = places i (subst (λ (xs : List ℕ). Contains xs i) (sym split) at) in
    let longer = extends.longer in omega arith)
    (λ (lt : i < length b). lt)
    (only i contained)

pub descent_goes_on : (h : List Node) (least to : ℕ) (a b : List Marked) (before rest after : List ℕ) (place : ℕ)
    → before ≡ rest ++ place ∷ [] → IsDescent h least to a before → Extends a b place → QueuesParents h least b place
    → commit_in a place ≢ to → ((i : ℕ) → Contains rest i → Contains after i)
    → ((i : ℕ) → length a ≤ i → i < length b → Contains after i) → IsDescent h least to b after
descent_goes_on h least to a b before rest after place split descent extends parents other old new i lt =
    ⊎_elim
    (λ (lo : i < length a).
    ⊎_elim
    (λ (was : Contains before i).
    ⊎_elim
    (λ (left : Contains rest i). inl (old i left))
    (λ (here : place ≡ i).
    inr (
      subst (λ (k : ℕ). QueuesParents h least b k) here parents,
      (λ at. other (ap (commit_in a) here ∙ sym (commit_extends a b place i extends lo) ∙ at)),
    ))
    (Contains-push_cases rest place i (subst (λ (xs : List ℕ). Contains xs i) split was)))
    (λ (done : QueuesParents h least a i × (commit_in a i ≢ to)).
    inr (
      (λ q parent high.
          queued_extends a b place q extends
          (done.0 q (subst (λ (p : ℕ). IsParent h p q) (commit_extends a b place i extends lo) parent) high)),
      (λ at. done.1 (sym (commit_extends a b place i extends lo) ∙ at)),
    ))
    (descent i lo))
    (λ (hi : length a ≤ i). inl (new i hi lt))
    (cases_lt i (length a))

-- no place is deeper than commits were visited
abbrev pub AreShallow : List Marked → ℕ → Type 0
AreShallow queued visits = (i d : ℕ) → i < length queued → Depth queued i d → d ≤ visits

pub shallow_begins : (queued : List Marked) → length queued ≡ 1 → AreShallow queued 0
shallow_begins queued one i zero lt depth = omega arith
shallow_begins queued one i (suc d) lt depth = let pos = depth.0 in absurd (omega arith)

-- a visit of the commit at place c
module _ (a b : List Marked) (c : ℕ) (extends : Extends a b c)
    (earlier : (i : ℕ) → 0 < i → i < length a → child_in a i < i) where
  depth_before : (i d : ℕ) → i < length a → Depth b i d → Depth a i d
  depth_before i zero lt depth = depth
  depth_before i (suc d) lt depth =
      let below = earlier i depth.0 lt in
      let child = subst (λ (k : ℕ). Depth b k d) (child_extends a b c i extends lt) depth.1 in
      (depth.0, depth_before (child_in a i) d (omega arith) child)

  module _ (visits : ℕ) (here : c < length a) (shallow : AreShallow a visits) where
    new_is_shallow : (i d : ℕ) → length a ≤ i → i < length b → Depth b i d → d ≤ visits + 1
    new_is_shallow i zero from lt depth = omega arith
    new_is_shallow i (suc d) from lt depth =
        let child = subst (λ (k : ℕ). Depth b k d) (extends.since i from lt) depth.1 in
        let le = shallow c d here (depth_before c d here child) in
        omega arith

    pub shallow_goes_on : AreShallow b (visits + 1)
    shallow_goes_on i d lt depth =
        ⊎_elim
        (λ (lo : i < length a). let le = shallow i d lo (depth_before i d lo depth) in omega arith)
        (λ (hi : length a ≤ i). new_is_shallow i d hi lt depth)
        (cases_lt i (length a))

-- where nothing is left to visit
module _ (h : List Node) (least from to : ℕ) (queued : List Marked) (stack : List ℕ) (queue : IsQueue h least queued)
    (never_rises : (p q : ℕ) → Reaches h p q → generation_at h q ≤ generation_at h p) (some : 0 < length queued)
    (first : commit_in queued 0 ≡ from) (descent : IsDescent h least to queued stack) (none : length stack ≡ 0) where
  done : (i : ℕ) → i < length queued → QueuesParents h least queued i × (commit_in queued i ≢ to)
  done i lt =
      ⊎_elim
      (λ (left : Contains stack i). absurd (omega (arith, left.1)))
      (λ (is : QueuesParents h least queued i × (commit_in queued i ≢ to)). is)
      (descent i lt)

  pub descent_has_all : (q : ℕ) → least ≤ generation_at h q → Reaches h from q → IsQueued queued q
  descent_has_all q high reaches =
      all_queued h least queued queue never_rises (λ i lt. (done i lt).0) from q (0, some, first) high reaches

  -- the commit was not reached
  pub descent_ends : least ≤ generation_at h to → Reaches h from to → ⊥
  descent_ends high reaches = let at = descent_has_all to high reaches in (done at.0 at.1).1 at.2
