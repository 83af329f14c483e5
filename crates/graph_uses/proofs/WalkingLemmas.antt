-- A walk over all ancestors of a commit, the greatest generation number first: its marks, its queue, and the commits walked.
use Rattle.std.proofs.Common.{◌≡◌, ◌≢◌, ◌⊎◌, ℕ, ◌+◌, ◌<◌, ◌≤◌, zero, suc, Bool, true, false, not, cond, eqb, List, [], ◌∷◌, ◌++◌}
use Rattle.std.proofs.Common.{length, get_or, set, replicate, All, AllPairs, Contains, IsPermutation, sum_by, refl, sym, ap, ◌∙◌}
use Rattle.std.proofs.Common.{subst, inl, inr, ⊎_elim, arith}
use Rattle.std.specs.Ordering.{nat_cmp}
use Rattle.std.specs.BinaryHeap.{IsHeap, IsUpperBound}
use Rattle.std.proofs.lemmas.Bool.{cases_eq, cases_lt, false≢true}
use Rattle.std.proofs.lemmas.Bool.Decides.{nat_tests}
use Rattle.std.proofs.lemmas.List.{get_or-set_same, get_or-set_other, get_or-replicate, get_or_past, length-set, length-replicate}
use Rattle.std.proofs.lemmas.List.Elements.{All-nil, All-cons, All-head, All-tail, All-push, All-weaker, All-contains}
use Rattle.std.proofs.lemmas.List.Elements.{Contains-get_or, Contains-push_cases}
use Rattle.std.proofs.lemmas.List.Quantifiers.{all_pairs_push}
use Rattle.std.proofs.lemmas.List.Sorted.{All-permutation, length_permutation, first_le_from_greatest, sum_by_pushed}
use Rattle.std.proofs.lemmas.List.Sorted.{sum_by_popped}
use Rattle.std.proofs.lemmas.List.Sums.{sum_by-cons, sum_by-set, sum_by_push, get_or-le-sum_by}
use Rattle.gix_commitgraph.specs.History.{Node, IsParent, generation_at, parents_at}
use Rattle.gix_commitgraph.specs.Position.{Position}
use Rattle.gix_commitgraph.specs.Walks.{Reaches}
use Rattle.commit_search.specs.Positions.{numbers_of}
use Rattle.commit_search.proofs.EdgeListLemmas.{head_contained, contained_cases}
use Rattle.graph_bases.specs.Painting.{entry_cmp}
use Rattle.graph_bases.proofs.ReachLemmas.{reaches_itself, reaches_then, step_reaches, carried}
use Rattle.graph_uses.specs.IdAnswers.{AreAncestors}
use Rattle.graph_uses.specs.Walking.{is_seen, Enqueues}

abbrev one : Bool → ℕ
one b = cond b 1 0

-- how often a list, and a queue, has a commit
abbrev pub times : List ℕ → ℕ → ℕ
times xs p = sum_by (λ (x : ℕ). one (eqb x p)) xs

abbrev pub times_queued : List (ℕ × ℕ) → ℕ → ℕ
times_queued queue p = sum_by (λ (e : ℕ × ℕ). one (eqb e.1 p)) queue

-- how many commits are left to be marked or to be taken from the queue
abbrev pub work : List Bool → List (ℕ × ℕ) → ℕ
work seen queue = sum_by (λ (b : Bool). one (not b)) seen + length queue

abbrev pub IsEntry : List Node → ℕ → ℕ × ℕ → Type 0
IsEntry h start e = (e.0 ≡ generation_at h e.1) × (e.1 < length h) × Reaches h start e.1

-- Some commits are walked, and those that are left are to be marked next.
pub record IsWalking (h : List Node) (start : ℕ) (seen : List Bool) (queue : List (ℕ × ℕ)) (walked left : List ℕ) : Type 0 where
  pub heap : IsHeap entry_cmp queue
  pub marks : length seen ≡ length h
  pub entries : All (IsEntry h start) queue
  -- a marked commit stands once, in the queue or among those walked, and no other stands there
  pub counts : (p : ℕ) → times_queued queue p + times walked p ≡ one (is_seen seen p)
  pub reached : All (Reaches h start) walked
  pub started : (is_seen seen start ≡ true) ⊎ Contains left start
  pub closed : (p q : ℕ) → Contains walked p → IsParent h p q → (is_seen seen q ≡ true) ⊎ Contains left q
  pub order : AllPairs (λ p q. generation_at h q ≤ generation_at h p) walked
  pub low : All (λ p. All (λ (e : ℕ × ℕ). e.0 ≤ generation_at h p) queue) walked
  pub left_commits : All (λ q. (q < length h) × Reaches h start q) left
  pub left_low : All (λ p. All (λ q. generation_at h q ≤ generation_at h p) left) walked

none_contained : (p : ℕ) → ¬ Contains [] p
none_contained p (k, lt, at) = omega arith

same_counts : (x p : ℕ) → x ≡ p → one (eqb x p) ≡ 1
same_counts x p same = grind (arith, nat_tests)

other_counts : (x p : ℕ) → x ≢ p → one (eqb x p) ≡ 0
other_counts x p apart = grind (arith, nat_tests)

none_seen : (n p : ℕ) → get_or (replicate n false) p false ≡ false
none_seen n p =
    ⊎_elim
    (λ (lt : p < n). get_or-replicate n p false false lt)
    (λ (le : n ≤ p). get_or_past (replicate n false) p false (let len = length-replicate n false in omega arith))
    (cases_lt p n)

-- Nothing is marked yet.
pub begun : (h : List Node) (start : ℕ) (seen : List Bool) (queue : List (ℕ × ℕ)) → seen ≡ replicate (length h) false
    → start < length h → queue ≡ [] → IsHeap entry_cmp queue → IsWalking h start seen queue [] (start ∷ [])
begun h start seen queue bare within empty heap = record {
  heap = heap;
  marks = ap length bare ∙ length-replicate (length h) false;
  entries = subst (All (IsEntry h start)) (sym empty) (All-nil (IsEntry h start));
  counts = λ p.
      ap (λ (es : List (ℕ × ℕ)). times_queued es p + 0) empty
      ∙ sym (ap one (ap (λ (bs : List Bool). is_seen bs p) bare ∙ none_seen (length h) p));
  reached = All-nil (Reaches h start);
  started = inr (head_contained start []);
  closed = λ p q contained. absurd (none_contained p contained);
  order = λ i j d lt inside. absurd (omega arith);
  low = All-nil (λ p. All (λ (e : ℕ × ℕ). e.0 ≤ generation_at h p) queue);
  left_commits =
      All-cons (λ q. (q < length h) × Reaches h start q) start [] (within, reaches_itself h start within)
      (All-nil (λ q. (q < length h) × Reaches h start q));
  left_low = All-nil (λ p. All (λ q. generation_at h q ≤ generation_at h p) (start ∷ []));
}

-- A commit that is left is marked.
module _ (h : List Node) (start : ℕ) (seen : List Bool) (queue : List (ℕ × ℕ)) (walked left : List ℕ) (q : ℕ)
    (is : IsWalking h start seen queue walked (q ∷ left)) where
  abbrev Low : ℕ → ℕ → Type 0
  Low p r = generation_at h r ≤ generation_at h p

  already : is_seen seen q ≡ true → IsWalking h start seen queue walked left
  already marked = record {
    heap = is.heap;
    marks = is.marks;
    entries = is.entries;
    counts = is.counts;
    reached = is.reached;
    started = known start is.started;
    closed = λ p r contained parent. known r (is.closed p r contained parent);
    order = is.order;
    low = is.low;
    left_commits = All-tail (λ r. (r < length h) × Reaches h start r) q left is.left_commits;
    left_low = λ i d inside. All-tail (Low (get_or walked i d)) q left (is.left_low i d inside);
  } where
    known : (r : ℕ) → (is_seen seen r ≡ true) ⊎ Contains (q ∷ left) r → (is_seen seen r ≡ true) ⊎ Contains left r
    known r (inl seen_too) = inl seen_too
    known r (inr contained) =
        ⊎_elim
        (λ (same : q ≡ r). inl (ap (is_seen seen) (sym same) ∙ marked))
        (λ (later : Contains left r). inr later)
        (contained_cases q r left contained)

  module _ (seen_after : List Bool) (queue_after : List (ℕ × ℕ)) (unmarked : is_seen seen q ≡ false)
      (set_there : seen_after ≡ set seen q true) (moved : IsPermutation ((generation_at h q, q) ∷ queue) queue_after)
      (heap_after : IsHeap entry_cmp queue → IsHeap entry_cmp queue_after) where
    head : (q < length h) × Reaches h start q
    head = All-head (λ r. (r < length h) × Reaches h start r) q left is.left_commits

    inside_marks : q < length seen
    inside_marks = let within = head.0 in let len = is.marks in omega arith

    here : (r : ℕ) → r ≡ q → is_seen seen_after r ≡ true
    here r same =
        ap (is_seen seen_after) same ∙ ap (λ (bs : List Bool). is_seen bs q) set_there
        ∙ get_or-set_same seen q true false inside_marks

    there : (r : ℕ) → r ≢ q → is_seen seen_after r ≡ is_seen seen r
    there r apart = ap (λ (bs : List Bool). is_seen bs r) set_there ∙ get_or-set_other seen q r true false apart

    known_after : (r : ℕ) → (is_seen seen r ≡ true) ⊎ Contains (q ∷ left) r → (is_seen seen_after r ≡ true) ⊎ Contains left r
    known_after r known =
        ⊎_elim
        (λ (same : r ≡ q). inl (here r same))
        (λ (apart : r ≢ q).
        ⊎_elim
        (λ (marked : is_seen seen r ≡ true). inl (there r apart ∙ marked))
        (λ (contained : Contains (q ∷ left) r).
        ⊎_elim
        (λ (same : q ≡ r). absurd (apart (sym same)))
        (λ (later : Contains left r). inr later)
        (contained_cases q r left contained))
        known)
        (cases_eq r q)

    pushed_counts : (p : ℕ) → times_queued queue_after p ≡ one (eqb q p) + times_queued queue p
    pushed_counts p = sum_by_pushed (λ (e : ℕ × ℕ). one (eqb e.1 p)) (generation_at h q, q) queue queue_after moved

    counts_after : (p : ℕ) → times_queued queue_after p + times walked p ≡ one (is_seen seen_after p)
    counts_after p =
        ⊎_elim
        (λ (same : p ≡ q).
        let was = is.counts p in
        let none : one (is_seen seen p) ≡ 0 = ap one (ap (is_seen seen) same ∙ unmarked) in
        let now : one (is_seen seen_after p) ≡ 1 = ap one (here p same) in
        let more = pushed_counts p in
        let counted = same_counts q p (sym same) in
        omega arith)
        (λ (apart : p ≢ q).
        let was = is.counts p in
        let now : one (is_seen seen_after p) ≡ one (is_seen seen p) = ap one (there p apart) in
        let more = pushed_counts p in
        let counted = other_counts q p (λ same. apart (sym same)) in
        omega arith)
        (cases_eq p q)

    fresh : IsWalking h start seen_after queue_after walked left
    fresh = record {
      heap = heap_after is.heap;
      marks = ap length set_there ∙ length-set seen q true ∙ is.marks;
      entries =
          All-permutation (IsEntry h start) ((generation_at h q, q) ∷ queue) queue_after moved
          (All-cons (IsEntry h start) (generation_at h q, q) queue (refl, head.0, head.1) is.entries);
      counts = counts_after;
      reached = is.reached;
      started = known_after start is.started;
      closed = λ p r contained parent. known_after r (is.closed p r contained parent);
      order = is.order;
      low = λ i d inside.
          All-permutation (λ (e : ℕ × ℕ). e.0 ≤ generation_at h (get_or walked i d)) ((generation_at h q, q) ∷ queue)
          queue_after moved
          (All-cons (λ (e : ℕ × ℕ). e.0 ≤ generation_at h (get_or walked i d)) (generation_at h q, q) queue
          (All-head (Low (get_or walked i d)) q left (is.left_low i d inside)) (is.low i d inside));
      left_commits = All-tail (λ r. (r < length h) × Reaches h start r) q left is.left_commits;
      left_low = λ i d inside. All-tail (Low (get_or walked i d)) q left (is.left_low i d inside);
    }

    fresh_work : work seen_after queue_after ≡ work seen queue
    fresh_work =
        let f : Bool → ℕ = λ b. one (not b) in
        let now : sum_by f seen_after ≡ sum_by f (set seen q true) = ap (sum_by f) set_there in
        let sums = sum_by-set f seen q true false inside_marks in
        let was : f (is_seen seen q) ≡ 1 = ap f unmarked in
        let len = length_permutation ((generation_at h q, q) ∷ queue) queue_after moved in
        omega arith

  pub enqueued : (seen_after : List Bool) (queue_after : List (ℕ × ℕ)) → Enqueues h q seen queue seen_after queue_after
      → IsWalking h start seen_after queue_after walked left × (work seen_after queue_after ≡ work seen queue)
  enqueued seen_after queue_after (inl (marked, same, stays)) = (
    subst (λ (bs : List Bool). IsWalking h start bs queue_after walked left) (sym same)
        (subst (λ (es : List (ℕ × ℕ)). IsWalking h start seen es walked left) (sym stays) (already marked)),
    ap (λ (bs : List Bool). work bs queue_after) same ∙ ap (work seen) stays,
  )
  enqueued seen_after queue_after (inr (unmarked, set_there, moved, heap_after)) = (
    fresh seen_after queue_after unmarked set_there moved heap_after,
    fresh_work seen_after queue_after unmarked set_there moved heap_after,
  )

-- A commit is taken from the queue and walked, and its parents are left.
module _ (h : List Node) (start : ℕ) (seen : List Bool) (queue rest : List (ℕ × ℕ)) (walked : List ℕ) (next : ℕ × ℕ)
    (falls : (p q : ℕ) → Reaches h p q → generation_at h q ≤ generation_at h p)
    (is : IsWalking h start seen queue walked []) (moved : IsPermutation queue (next ∷ rest))
    (heap_after : IsHeap entry_cmp rest) (greatest : IsUpperBound entry_cmp next rest) where
  entries_moved : All (IsEntry h start) (next ∷ rest)
  entries_moved = All-permutation (IsEntry h start) queue (next ∷ rest) moved is.entries

  pub next_entry : IsEntry h start next
  next_entry = All-head (IsEntry h start) next rest entries_moved

  low_moved : (i d : ℕ) → i < length walked → All (λ (e : ℕ × ℕ). e.0 ≤ generation_at h (get_or walked i d)) (next ∷ rest)
  low_moved i d inside =
      All-permutation (λ (e : ℕ × ℕ). e.0 ≤ generation_at h (get_or walked i d)) queue (next ∷ rest) moved (is.low i d inside)

  next_low : (i d : ℕ) → i < length walked → generation_at h next.1 ≤ generation_at h (get_or walked i d)
  next_low i d inside =
      let entry = next_entry.0 in
      let low = All-head (λ (e : ℕ × ℕ). e.0 ≤ generation_at h (get_or walked i d)) next rest (low_moved i d inside) in
      omega arith

  counts_after_pop : (p : ℕ) → times_queued rest p + times (walked ++ next.1 ∷ []) p ≡ one (is_seen seen p)
  counts_after_pop p =
      let was = is.counts p in
      let popped = sum_by_popped (λ (e : ℕ × ℕ). one (eqb e.1 p)) next queue rest moved in
      let pushed = sum_by_push (λ (x : ℕ). one (eqb x p)) walked next.1 in
      omega arith

  is_parent : (within : All (λ q. q < length h) (parents_at h next.1)) (i d : ℕ) → i < length (parents_at h next.1)
      → IsParent h next.1 (get_or (parents_at h next.1) i d)
  is_parent within i d inside = (next_entry.1, within i d inside, Contains-get_or (parents_at h next.1) i d inside)

  pub popped : All (λ q. q < length h) (parents_at h next.1)
      → IsWalking h start seen rest (walked ++ next.1 ∷ []) (parents_at h next.1)
  popped within = record {
    heap = heap_after;
    marks = is.marks;
    entries = All-tail (IsEntry h start) next rest entries_moved;
    counts = counts_after_pop;
    reached = All-push (Reaches h start) walked next.1 is.reached next_entry.2;
    started =
        ⊎_elim
        (λ (marked : is_seen seen start ≡ true). inl marked)
        (λ (contained : Contains [] start). absurd (none_contained start contained))
        is.started;
    closed = λ p r contained parent.
        ⊎_elim
        (λ (old : Contains walked p).
        ⊎_elim
        (λ (marked : is_seen seen r ≡ true). inl marked)
        (λ (none : Contains [] r). absurd (none_contained r none))
        (is.closed p r old parent))
        (λ (same : next.1 ≡ p). inr (subst (λ (x : ℕ). Contains (parents_at h x) r) (sym same) parent.2))
        (Contains-push_cases walked next.1 p contained);
    order =
        all_pairs_push (λ p q. generation_at h q ≤ generation_at h p) walked next.1 is.order
        (λ k d inside. next_low k d inside);
    low =
        All-push (λ p. All (λ (e : ℕ × ℕ). e.0 ≤ generation_at h p) rest) walked next.1
        (λ i d inside.
        All-tail (λ (e : ℕ × ℕ). e.0 ≤ generation_at h (get_or walked i d)) next rest (low_moved i d inside))
        (All-weaker (λ (e : ℕ × ℕ). e.0 ≤ next.0) (λ (e : ℕ × ℕ). e.0 ≤ generation_at h next.1)
        (λ e low. let entry = next_entry.0 in omega arith) rest
        (first_le_from_greatest nat_cmp next rest greatest));
    left_commits = λ i d inside. (
      within i d inside,
      reaches_then h start next.1 (get_or (parents_at h next.1) i d) next_entry.2
          (step_reaches h next.1 (get_or (parents_at h next.1) i d) (is_parent within i d inside)),
    );
    left_low =
        All-push (λ p. All (λ q. generation_at h q ≤ generation_at h p) (parents_at h next.1)) walked next.1
        (λ i d inside j e among.
        let step = falls next.1 (get_or (parents_at h next.1) j e)
        (step_reaches h next.1 (get_or (parents_at h next.1) j e) (is_parent within j e among)) in
        let low = next_low i d inside in
        omega arith)
        (λ j e among.
        falls next.1 (get_or (parents_at h next.1) j e)
        (step_reaches h next.1 (get_or (parents_at h next.1) j e) (is_parent within j e among)));
  }

-- a number that stands at two places counts twice
twice : (xs : List ℕ) (i j d p : ℕ) → i < j → j < length xs → get_or xs i d ≡ p → get_or xs j d ≡ p → 2 ≤ times xs p
twice [] i j d p lt inside first second = absurd (omega arith)
twice (x ∷ xs) i zero d p lt inside first second = absurd (omega arith)
twice (x ∷ xs) zero (suc j) d p lt inside first second =
    let sum = sum_by-cons (λ (y : ℕ). one (eqb y p)) x xs in
    let here = same_counts x p first in
    let there = same_counts (get_or xs j d) p second in
    let later = get_or-le-sum_by (λ (y : ℕ). one (eqb y p)) xs j d (omega arith) in
    omega (arith, sum, here, there, later)
twice (x ∷ xs) (suc i) (suc j) d p lt inside first second =
    let sum = sum_by-cons (λ (y : ℕ). one (eqb y p)) x xs in
    let more = twice xs i j d p (omega arith) (omega arith) first second in
    omega (arith, sum, more)

-- a number that counts is contained
counted : (xs : List ℕ) (p : ℕ) → 0 < times xs p → Contains xs p
counted [] p some = absurd (omega arith)
counted (x ∷ xs) p some =
    ⊎_elim
    (λ (same : x ≡ p). (0, omega arith, same))
    (λ (apart : x ≢ p).
    let sum = sum_by-cons (λ (y : ℕ). one (eqb y p)) x xs in
    let none = other_counts x p apart in
    let later = counted xs p (omega (arith, sum, none, some)) in
    (suc later.0, omega (arith, later.1), later.2))
    (cases_eq x p)

-- Nothing is left.
module _ (h : List Node) (start : ℕ) (seen : List Bool) (queue : List (ℕ × ℕ)) (walked : List ℕ)
    (is : IsWalking h start seen queue walked []) (empty : queue ≡ []) where
  marked_times : (p : ℕ) → times walked p ≡ one (is_seen seen p)
  marked_times p =
      let was = is.counts p in
      let none : times_queued queue p ≡ 0 = ap (λ (es : List (ℕ × ℕ)). times_queued es p) empty in
      omega arith

  marked_walked : (p : ℕ) → is_seen seen p ≡ true → Contains walked p
  marked_walked p marked =
      let once = marked_times p in
      let some : one (is_seen seen p) ≡ 1 = ap one marked in
      counted walked p (omega arith)

  at_most_one : (b : Bool) → one b ≤ 1
  at_most_one true = omega arith
  at_most_one false = omega arith

  all_marked : (p : ℕ) → Reaches h start p → is_seen seen p ≡ true
  all_marked p reaches =
      ⊎_elim
      (λ (marked : is_seen seen p ≡ true). marked)
      (λ below. absurd (false≢true below.1))
      (carried h (λ _. false) (λ x. is_seen seen x ≡ true)
      (λ x y _ parent marked.
      ⊎_elim
      (λ (too : is_seen seen y ≡ true). too)
      (λ (none : Contains [] y). absurd (none_contained y none))
      (is.closed x y (marked_walked x marked) parent))
      start p reaches
      (⊎_elim
      (λ (marked : is_seen seen start ≡ true). marked)
      (λ (none : Contains [] start). absurd (none_contained start none))
      is.started))

  pub ended : AreAncestors h start walked
  ended = record {
    lists = record {
      once = λ i j d lt inside same.
          let two = twice walked i j d (get_or walked j d) lt inside same refl in
          let times_once = marked_times (get_or walked j d) in
          let most = at_most_one (is_seen seen (get_or walked j d)) in
          omega arith;
      those = λ p. (
        λ contained. All-contains (Reaches h start) walked p is.reached contained,
        λ reaches. marked_walked p (all_marked p reaches),
      );
    };
    order = is.order;
  }

-- the positions of numbers that are below another
pub numbers_within : (n : ℕ) (positions : List Position) → All (λ p. p < n) (numbers_of positions)
    → All (λ (pos : Position). pos.0 < n) positions
numbers_within n [] within = All-nil (λ (pos : Position). pos.0 < n)
numbers_within n (pos ∷ rest) within =
    All-cons (λ (q : Position). q.0 < n) pos rest (All-head (λ p. p < n) pos.0 (numbers_of rest) within)
    (numbers_within n rest (All-tail (λ p. p < n) pos.0 (numbers_of rest) within))
