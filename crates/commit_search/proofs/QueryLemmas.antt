-- What a search breadth first has shown when it stops, and that a visit keeps what it has shown so far.
use Rattle.std.proofs.Common.{◌≡◌, ◌≢◌, ℕ, ◌+◌, ◌<◌, ◌≤◌, List, [], ◌∷◌, length, refl, sym, ap, ◌∙◌, subst, subst₂, ⊎_elim, arith}
use Rattle.std.proofs.lemmas.Bool.{cases_lt}
use Rattle.graph_walks.specs.History.{Node, IsParent, generation_at}
use Rattle.graph_walks.specs.Walks.{IsWalkBetween, Reaches}
use Rattle.commit_search.specs.SearchState.{SearchState}
use Rattle.commit_search.specs.WalkAnswer.{IsShortestWalk, IsAtOrAbove, IsAbove}
use Rattle.commit_search.specs.BreadthFirst.{AreInOrder, ChildrenUpTo, QueuedFrom, QueuesParentsFrom}
use Rattle.commit_search.specs.Cardinality.{AtLeast, AtMost}
use Rattle.commit_search.specs.Marks.{Marked}
use Rattle.commit_search.specs.Queue.{IsQueue, IsQueued, Extends, QueuesParents, Depth, commit_in, child_in}
use Rattle.commit_search.specs.Search.{queued_by, IsSearching, AreRead, GoesOn}
use Rattle.commit_search.specs.Source.{Told}
use Rattle.commit_search.proofs.QueueLemmas.{commit_extends, child_extends}
use Rattle.commit_search.proofs.SearchLemmas.{queue_told}
use Rattle.commit_search.proofs.ShortestWalkLemmas.{queued_is_reached, no_shorter, all_queued}
use Rattle.commit_search.proofs.VisitLemmas.{length-queued, visited, all_visited}

module _ (a b : List Marked) (c : ℕ) (extends : Extends a b c) where
  -- what was visited stays visited
  queued_from_extends : (i p : ℕ) → QueuedFrom a i p → QueuedFrom b i p
  queued_from_extends i p (j, lt, at, from) = (
    j,
    (let l = extends.longer in omega arith),
    commit_extends a b c j extends lt ∙ at,
    (let e = child_extends a b c j extends lt in omega arith),
  )

  queues_extends : (h : List Node) (least i : ℕ) → i < length a → QueuesParentsFrom h least a i → QueuesParentsFrom h least b i
  queues_extends h least i lt queues q parent high =
      queued_from_extends i q
      (queues q (subst (λ (p : ℕ). IsParent h p q) (commit_extends a b c i extends lt) parent) high)

  queues_more : (h : List Node) (least : ℕ) → c < length a → ((i : ℕ) → i < c → QueuesParentsFrom h least a i)
      → QueuesParentsFrom h least b c → (i : ℕ) → i < c + 1 → QueuesParentsFrom h least b i
  queues_more h least lt before here i below =
      ⊎_elim
      (λ (lo : i < c). queues_extends h least i (omega arith) (before i lo))
      (λ (hi : c ≤ i). let same : c ≡ i = omega arith in subst (λ (k : ℕ). QueuesParentsFrom h least b k) same here)
      (cases_lt i c)

  others_more : (to : ℕ) → c < length a → ((i : ℕ) → i < c → commit_in a i ≢ to) → commit_in a c ≢ to → (i : ℕ) → i < c + 1
      → commit_in b i ≢ to
  others_more to lt before here i below at =
      ⊎_elim
      (λ (lo : i < c). before i lo (sym (commit_extends a b c i extends (omega arith)) ∙ at))
      (λ (hi : c ≤ i).
      let same : c ≡ i = omega arith in
      here (ap (commit_in a) same ∙ sym (commit_extends a b c i extends (omega arith)) ∙ at))
      (cases_lt i c)

  children_extends : ChildrenUpTo a c → ChildrenUpTo b c
  children_extends up i lt =
      ⊎_elim
      (λ (lo : i < length a). let e = child_extends a b c i extends lo in let le = up i lo in omega arith)
      (λ (hi : length a ≤ i). let e = extends.since i hi lt in omega arith)
      (cases_lt i (length a))

  order_extends : ChildrenUpTo a c → AreInOrder a → AreInOrder b
  order_extends up order i j le lt =
      ⊎_elim
      (λ (lo : j < length a).
      let e = child_extends a b c i extends (omega arith) in let f = child_extends a b c j extends lo in
      let first = order i j le lo in omega arith)
      (λ (hi : length a ≤ j). let e = extends.since j hi lt in let first = children_extends up i (omega arith) in omega arith)
      (cases_lt j (length a))

-- The state of the query when visits commits were taken from the queue, by one history.
pub record IsQuery (h : List Node) (from to : ℕ) (s : SearchState) (visits : ℕ) : Type 0 where
  pub least : s.least ≡ generation_at h to
  pub kept : IsQueue h s.least (queued_by s)
  pub some : 0 < length (queued_by s)
  pub first : commit_in (queued_by s) 0 ≡ from
  pub order : AreInOrder (queued_by s)
  -- the parents of those that were taken are queued, and none of those was the one that is looked for
  pub parents : (i : ℕ) → i < visits → QueuesParentsFrom h (generation_at h to) (queued_by s) i
  pub others : (i : ℕ) → i < visits → commit_in (queued_by s) i ≢ to

-- That state, by what a source of so many commits says.
pub record IsQuerying (count : ℕ) (says : Told → Type 0) (from to : ℕ) (s : SearchState) (visits : ℕ) : Type 0 where
  pub search : IsSearching count says s
  pub read : AreRead says s
  pub least : (t : Told) → says t → s.least ≡ generation_at t.history to
  pub some : 0 < length (queued_by s)
  pub first : commit_in (queued_by s) 0 ≡ from
  pub taken : visits ≤ length (queued_by s)
  pub order : AreInOrder (queued_by s)
  pub children : ChildrenUpTo (queued_by s) visits
  pub parents : (t : Told) → says t → (i : ℕ) → i < visits
      → QueuesParentsFrom t.history (generation_at t.history to) (queued_by s) i
  pub others : (i : ℕ) → i < visits → commit_in (queued_by s) i ≢ to

-- before the first visit
pub query_begins : (count : ℕ) (says : Told → Type 0) (from to : ℕ) (s : SearchState) → IsSearching count says s → AreRead says s
    → queued_by s ≡ record { number = from; mark = 0 } ∷ []
    → ((t : Told) → says t → s.least ≡ generation_at t.history to) → IsQuerying count says from to s 0
query_begins count says from to s going read one least =
    let len : length (queued_by s) ≡ 1 = ap length one in
    let root : child_in (queued_by s) 0 ≡ 0 = ap (λ (xs : List Marked). child_in xs 0) one in
    let child = λ (i : ℕ) (lt : i < length (queued_by s)).
    let same : i ≡ 0 = omega arith in ap (child_in (queued_by s)) same ∙ root in
    record {
      search = going;
      read = read;
      least = least;
      some = omega arith;
      first = ap (λ (xs : List Marked). commit_in xs 0) one;
      taken = omega arith;
      order = λ i j le lt. omega (arith, child i (omega arith), child j lt);
      children = λ i lt. omega (arith, child i lt);
      parents = λ t said i below. absurd (omega arith);
      others = λ i below at. absurd (omega arith);
    }

module _ (count : ℕ) (says : Told → Type 0) (from to : ℕ) (s : SearchState) (visits : ℕ)
    (query : IsQuerying count says from to s visits) where
  pub queued_within : length (queued_by s) ≤ count
  queued_within = length-queued _ _ _ (queued_by s) query.search.queue

  -- by one history that the source says
  pub query_told : (t : Told) → says t → IsQuery t.history from to s visits
  query_told t said = record {
    least = query.least t said;
    kept = queue_told count says s t said query.search;
    some = query.some;
    first = query.first;
    order = query.order;
    parents = query.parents t said;
    others = query.others;
  }

  -- a visit of the next commit, where it is not the one that is looked for
  pub query_goes_on : (less : Told → Type 0) → ((t : Told) → less t → says t) → (after : SearchState)
      → visits < length (queued_by s) → commit_in (queued_by s) visits ≢ to
      → GoesOn s after visits → IsSearching count less after → AreRead less after
      → ((t : Told) → less t → QueuesParents t.history s.least (queued_by after) visits)
      → IsQuerying count less from to after (visits + 1)
  query_goes_on less kept after lt other goes_on going read parents =
      let up = children_extends (queued_by s) (queued_by after) visits goes_on.extends query.children in
      let here : (t : Told) → less t → QueuesParentsFrom t.history (generation_at t.history to) (queued_by after) visits =
      λ t said q parent high.
      let at : IsQueued (queued_by after) q =
      parents t said q parent (omega (arith, query.least t (kept t said), high)) in
      (at.0, at.1, at.2, up at.0 at.1) in
      record {
        search = going;
        read = read;
        least = λ t said. goes_on.least ∙ query.least t (kept t said);
        some = (let longer = goes_on.extends.longer in omega (arith, query.some));
        first = commit_extends (queued_by s) (queued_by after) visits 0 goes_on.extends query.some ∙ query.first;
        taken = (let longer = goes_on.extends.longer in omega arith);
        order = order_extends (queued_by s) (queued_by after) visits goes_on.extends query.children query.order;
        children = λ i below. (let child = up i below in omega arith);
        parents = λ t said.
            queues_more (queued_by s) (queued_by after) visits goes_on.extends t.history (generation_at t.history to) lt
            (query.parents t (kept t said)) (here t said);
        others = others_more (queued_by s) (queued_by after) visits goes_on.extends to lt query.others other;
      }

-- each commit that was queued is reached and may lead to the one that is looked for
pub each_at_or_above : (h : List Node) (least from to : ℕ) (queued : List Marked) (n : ℕ) → IsQueue h least queued
    → commit_in queued 0 ≡ from → least ≡ generation_at h to → n ≤ length queued → AtLeast n (IsAtOrAbove h from to)
each_at_or_above h least from to queued n queue first is le =
    visited _ _ _ queued queue (IsAtOrAbove h from to) n le (λ i lt. (
      subst (λ (p : ℕ). Reaches h p (commit_in queued i)) first (queued_is_reached h least queued queue i (omega arith)),
      omega (arith, is, queue.kept i (omega arith)),
    ))

module _ (h : List Node) (from to : ℕ) (s : SearchState) (visits : ℕ) (query : IsQuery h from to s visits) where
  queue : IsQueue h (generation_at h to) (queued_by s)
  queue = subst (λ (n : ℕ). IsQueue h n (queued_by s)) query.least query.kept

  pub all_at_or_above : (n : ℕ) → n ≤ length (queued_by s) → AtLeast n (IsAtOrAbove h from to)
  all_at_or_above n le = each_at_or_above h (generation_at h to) from to (queued_by s) n queue query.first refl le

  module _ (never_rises : (p q : ℕ) → Reaches h p q → generation_at h q ≤ generation_at h p) where
    -- where the next commit is the one that is looked for
    pub walk_is_shortest : (d : ℕ) (walk : List ℕ) → visits < length (queued_by s) → commit_in (queued_by s) visits ≡ to
        → IsWalkBetween h (commit_in (queued_by s) 0) (commit_in (queued_by s) visits) walk
        → Depth (queued_by s) visits d → length walk ≡ d + 1 → IsShortestWalk h from to walk
    walk_is_shortest d walk lt at between depth len =
        let shortest : IsShortestWalk h (commit_in (queued_by s) 0) (commit_in (queued_by s) visits) walk = record {
          between = between;
          least = λ other walks. let longer =
              no_shorter h (generation_at h to) (queued_by s) queue query.order never_rises visits query.parents d other lt
              (queue.kept visits lt) depth walks in omega arith;
        } in
        subst₂ (λ (p q : ℕ). IsShortestWalk h p q walk) query.first at shortest

    -- where nothing is left to visit
    module _ (all : length (queued_by s) ≤ visits) where
      closed : (i : ℕ) → i < length (queued_by s) → QueuesParents h (generation_at h to) (queued_by s) i
      closed i lt q parent high =
          let at = query.parents i (omega arith) q parent high in
          (at.0, at.1, at.2)

      pub all_are_queued : (q : ℕ) → generation_at h to ≤ generation_at h q → Reaches h from q → IsQueued (queued_by s) q
      all_are_queued q high reaches =
          all_queued h (generation_at h to) (queued_by s) queue never_rises closed from q (0, query.some, query.first) high
          reaches

      pub not_reached : Reaches h from to → ⊥
      not_reached reaches =
          let at = all_are_queued to (omega arith) reaches in
          query.others at.0 (omega (arith, at.1)) at.2

      pub all_were_visited : AtMost visits (IsAbove h from to)
      all_were_visited =
          all_visited _ _ _ (queued_by s) queue (IsAbove h from to) visits all (λ p reached.
          all_are_queued p (let high = reached.1 in omega arith) reached.0)
