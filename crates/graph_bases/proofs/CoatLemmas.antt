-- Coats that change one at a time, and the queue beside them.
use Rattle.std.proofs.Common.{◌≡◌, ◌≢◌, ◌⊎◌, ℕ, ◌^◌, ◌<◌, ◌≤◌, zero, suc, List, [], ◌∷◌, ◌++◌, if◌then◌else◌, Bool, true, false}
use Rattle.std.proofs.Common.{not, cond, length, set}
use Rattle.std.proofs.Common.{◌+◌, get_or, All, Contains, IsPermutation, sum_by, count_by, refl, sym, ap, ◌∙◌, subst, inl, inr}
use Rattle.std.proofs.Common.{⊎_elim, arith}
use Rattle.std.specs.Ordering.{nat_cmp}
use Rattle.std.specs.BinaryHeap.{IsHeap, IsUpperBound}
use Rattle.std.proofs.lemmas.Bool.{cases_eq, cases_lt, false≢true, both_ways, and_from, not_from_false}
use Rattle.std.proofs.lemmas.List.{length-set, get_or-set_same, get_or-set_other, get_or_read, length-map}
use Rattle.std.proofs.lemmas.List.Elements.{All-nil, All-cons, All-head, All-tail, All-contains, Contains-get_or, Contains-push}
use Rattle.std.proofs.lemmas.List.Elements.{Contains-push_cases, Contains-append_left}
use Rattle.std.proofs.lemmas.List.Quantifiers.{all_pairs_push}
use Rattle.std.proofs.lemmas.List.Sorted.{All-permutation, Contains-permutation, length_permutation, first_le_from_greatest}
use Rattle.std.proofs.lemmas.List.Sums.{sum_by-set, get_or-le-sum_by, count_by-le-length}
use Rattle.graph_walks.specs.History.{Node, IsParent}
use Rattle.graph_format.specs.declared.Position.{Position}
use Rattle.commit_search.specs.Positions.{numbers_of}
use Rattle.graph_bases.specs.declared.paint.Coat.{Coat}
use Rattle.graph_bases.specs.declared.paint.Paint.{Paint}
use Rattle.graph_bases.specs.declared.paint.Paint.TheVariants.{First, Others}
use Rattle.graph_bases.specs.Paint.{is_base, first_leads, others_lead, is_stale, is_painted, covers, joined, passed, unknown}
use Rattle.graph_bases.specs.Paint.{is_fresh, bare, coat_at, paint_at, is_queued, IsSo, IsPaint, Grows}
use Rattle.graph_bases.specs.Painting.{AreCandidates, IsSpread, IsSpreadBut, entry_cmp, IsRanked, IsWaiting, IsLevel}
use Rattle.graph_bases.specs.Painting.{Joins, JoinsRanked, Adds, IsDone}
use Rattle.graph_bases.specs.Painting.{work}
use Rattle.commit_search.specs.Ranks.{Ranking}
use Rattle.graph_bases.proofs.ReachLemmas.{reaches_itself}
use Rattle.graph_bases.proofs.PaintLemmas.{grows_refl, grows_trans, grows_left, grows_right, covers_grows, joined_knows}
use Rattle.graph_bases.proofs.PaintLemmas.{so_joined, base_is_new, base_first, base_others}

abbrev pub coat_with : Paint → Bool → Coat
coat_with paint queued = record { paint = paint; queued = queued }

-- Members of a list that begins with one.
head_or_tail : {X : Type 0} (x y : X) (xs : List X) → Contains (x ∷ xs) y → (x ≡ y) ⊎ Contains xs y
head_or_tail x y xs (zero, lt, at) = inl at
head_or_tail x y xs (suc k, lt, at) = inr (k, omega arith, at)

at_head : {X : Type 0} (x : X) (xs : List X) → Contains (x ∷ xs) x
at_head x xs = (0, omega arith, refl)

in_tail : {X : Type 0} (x y : X) (xs : List X) → Contains xs y → Contains (x ∷ xs) y
in_tail x y xs (k, lt, at) = (suc k, omega arith, at)

-- A coat is changed.
module _ (coats : List Coat) (p : ℕ) (coat : Coat) (within : p < length coats) where
  coat_here : (q : ℕ) → q ≡ p → coat_at (set coats p coat) q ≡ coat
  coat_here q e = ap (coat_at (set coats p coat)) e ∙ get_or-set_same coats p coat bare within

  coat_there : (q : ℕ) → q ≢ p → coat_at (set coats p coat) q ≡ coat_at coats q
  coat_there q apart = get_or-set_other coats p q coat bare apart

-- a count goes on to fit where it was right
pub recount_fits : (t : Coat → Bool) (coats : List Coat) (p : ℕ) (new : Coat) (count : ℕ) (was is : Bool) → p < length coats
    → length coats < 2 ^ 32 → count ≡ count_by t coats → was ≡ t (coat_at coats p) → is ≡ t new
    → count + cond {A = ℕ} is 1 0 < 2 ^ 32 + cond {A = ℕ} was 1 0
recount_fits t coats p new count was is inside few counted is_was is_new =
    let f : Coat → ℕ = λ m. cond (t m) 1 0 in
    let sums = sum_by-set f coats p new bare inside in
    let most = count_by-le-length t (set coats p new) in
    let len = length-set coats p new in
    let old : f (coat_at coats p) ≡ cond {A = ℕ} was 1 0 = ap (λ (b : Bool). cond {A = ℕ} b 1 0) (sym is_was) in
    let now : f new ≡ cond {A = ℕ} is 1 0 = ap (λ (b : Bool). cond {A = ℕ} b 1 0) (sym is_new) in
    omega arith

one_or_none : (b : Bool) → cond {A = ℕ} b 1 0 + cond {A = ℕ} b 0 1 ≡ 1
one_or_none true = refl
one_or_none false = refl

-- What is so after paint was added to a commit.
pub record AddedBy (count p : ℕ) (x : Paint) (coats after : List Coat) (queue more : List (ℕ × ℕ)) (old : List ℕ) : Type 0 where
  pub len : length after ≡ length coats
  pub waiting : IsWaiting count after more
  pub candidates : AreCandidates after (if is_base (joined (paint_at coats p) x) then old ++ p ∷ [] else old)
  pub adds : Adds p x coats after
  pub here : coat_at after p ≡ record { paint = joined (paint_at coats p) x; queued = true }
  pub work : work after more ≤ work coats queue

-- Paint is added to a commit, which is then queued.
module _ (count : ℕ) (coats : List Coat) (queue more : List (ℕ × ℕ)) (p : ℕ) (x : Paint) (coats_len : length coats ≡ count)
    (waiting : IsWaiting count coats queue) (within : p < count) (joins : Joins p queue more) (new : Coat)
    (is_new : new ≡ record { paint = joined (paint_at coats p) x; queued = true }) (after : List Coat)
    (is_after : after ≡ set coats p new) where
  inside : p < length coats
  inside = omega arith

  here : (q : ℕ) → q ≡ p → coat_at after q ≡ record { paint = joined (paint_at coats p) x; queued = true }
  here q e = ap (λ (ms : List Coat). coat_at ms q) is_after ∙ coat_here coats p new inside q e ∙ is_new

  there : (q : ℕ) → q ≢ p → coat_at after q ≡ coat_at coats q
  there q apart = ap (λ (ms : List Coat). coat_at ms q) is_after ∙ coat_there coats p new inside q apart

  added : Adds p x coats after
  added = record {
    kept = λ q settled.
        ⊎_elim
        (λ (e : q ≡ p). absurd (both_ways (is_queued after q) settled (ap (λ (m : Coat). m.queued) (here q e))))
        (λ (apart : q ≢ p). there q apart)
        (cases_eq q p);
    grows = λ q.
        ⊎_elim
        (λ (e : q ≡ p).
        subst (Grows (paint_at coats q)) (sym (ap (λ (m : Coat). m.paint) (here q e)))
        (subst (λ (r : ℕ). Grows (paint_at coats r) (joined (paint_at coats p) x)) (sym e) (grows_left (paint_at coats p) x)))
        (λ (apart : q ≢ p).
        subst (Grows (paint_at coats q)) (sym (ap (λ (m : Coat). m.paint) (there q apart))) (grows_refl (paint_at coats q)))
        (cases_eq q p);
    has = subst (Grows x) (sym (ap (λ (m : Coat). m.paint) (here p refl))) (grows_right (paint_at coats p) x);
    others = there;
  }

  added_waiting : length more ≡ length queue + cond (is_queued coats p) 0 1 → IsWaiting count after more
  added_waiting len = record {
    order = joins.order waiting.order;
    within = joins.within count within waiting.within;
    queued = λ q is.
        ⊎_elim
        (λ (e : q ≡ p). subst (λ (r : ℕ). (g : ℕ) × Contains more (g, r)) (sym e) joins.holds)
        (λ (apart : q ≢ p).
        let was = waiting.queued q (sym (ap (λ (m : Coat). m.queued) (there q apart)) ∙ is) in
        (was.0, joins.keeps (was.0, q) was.1))
        (cases_eq q p);
    count =
        let f : Coat → ℕ = λ m. cond m.queued 1 0 in
        let sums = sum_by-set f coats p new bare inside in
        let now : sum_by f after ≡ sum_by f (set coats p new) = ap (sum_by f) is_after in
        let one : f new ≡ 1 = ap f is_new in
        let flip = one_or_none (is_queued coats p) in
        let was = waiting.count in
        omega arith;
  }

  -- where it is a merge base as far as is known, it becomes a candidate
  module _ (candidates : List ℕ) (are : AreCandidates coats candidates) where
    grown : (q : ℕ) → Grows (paint_at coats q) (paint_at after q)
    grown q = added.grows q

    paint_here : (q : ℕ) → q ≡ p → paint_at after q ≡ joined (paint_at coats p) x
    paint_here q e = ap (λ (m : Coat). m.paint) (here q e)

    added_other : is_base (joined (paint_at coats p) x) ≡ false → AreCandidates after candidates
    added_other other = record {
      once = are.once;
      first = λ q contained. (grown q).first (are.first q contained);
      others = λ q contained. (grown q).others (are.others q contained);
      all = λ q base.
          ⊎_elim
          (λ (e : q ≡ p). absurd (both_ways (is_base (paint_at after q)) (ap is_base (paint_here q e) ∙ other) base))
          (λ (apart : q ≢ p). are.all q (ap (λ (m : Coat). is_base m.paint) (sym (there q apart)) ∙ base))
          (cases_eq q p);
    }

    added_base : covers (paint_at coats p) x ≡ false → is_base (joined (paint_at coats p) x) ≡ true
        → AreCandidates after (candidates ++ p ∷ [])
    added_base uncovered base = record {
      once = all_pairs_push (λ q r. q ≢ r) candidates p are.once
          (λ k d below same.
          let was : Contains candidates p = subst (Contains candidates) same (Contains-get_or candidates k d below) in
          base_is_new (paint_at coats p) x uncovered base (are.first p was) (are.others p was));
      first = λ q contained.
          ⊎_elim
          (λ (was : Contains candidates q). (grown q).first (are.first q was))
          (λ (e : p ≡ q). ap first_leads (paint_here q (sym e)) ∙ base_first (joined (paint_at coats p) x) base)
          (Contains-push_cases candidates p q contained);
      others = λ q contained.
          ⊎_elim
          (λ (was : Contains candidates q). (grown q).others (are.others q was))
          (λ (e : p ≡ q). ap others_lead (paint_here q (sym e)) ∙ base_others (joined (paint_at coats p) x) base)
          (Contains-push_cases candidates p q contained);
      all = λ q now.
          ⊎_elim
          (λ (e : q ≡ p). subst (Contains (candidates ++ p ∷ [])) (sym e) (Contains-push candidates p))
          (λ (apart : q ≢ p).
          Contains-append_left candidates (p ∷ []) q
          (are.all q (ap (λ (m : Coat). is_base m.paint) (sym (there q apart)) ∙ now)))
          (cases_eq q p);
    }

    added_all : covers (paint_at coats p) x ≡ false
        → AreCandidates after (if is_base (joined (paint_at coats p) x) then candidates ++ p ∷ [] else candidates)
    added_all uncovered = by_cases (is_base (joined (paint_at coats p) x)) refl where
      by_cases : (b : Bool) → is_base (joined (paint_at coats p) x) ≡ b
          → AreCandidates after (if b then candidates ++ p ∷ [] else candidates)
      by_cases true e = added_base uncovered e
      by_cases false e = added_other e

  added_work : covers (paint_at coats p) x ≡ false → work after more ≤ work coats queue
  added_work uncovered =
      let less = joined_knows (paint_at coats p) x uncovered in
      let sums = sum_by-set (λ (m : Coat). unknown m.paint) coats p new bare inside in
      let now : sum_by (λ (m : Coat). unknown m.paint) after ≡ sum_by (λ (m : Coat). unknown m.paint) (set coats p new) =
      ap (sum_by (λ (m : Coat). unknown m.paint)) is_after in
      let same : unknown new.paint ≡ unknown (joined (paint_at coats p) x) = ap (λ (m : Coat). unknown m.paint) is_new in
      let longer = joins.longer in
      omega arith

  pub added_by : length more ≡ length queue + cond (is_queued coats p) 0 1 → (candidates : List ℕ)
      → AreCandidates coats candidates → covers (paint_at coats p) x ≡ false
      → AddedBy count p x coats after queue more candidates
  added_by len candidates are uncovered = record {
    len = ap length is_after ∙ length-set coats p new;
    waiting = added_waiting len;
    candidates = added_all candidates are uncovered;
    adds = added;
    here = here p refl;
    work = added_work uncovered;
  }

-- What is so in a history.
module _ {count p : ℕ} {x : Paint} {coats after : List Coat} {queue more : List (ℕ × ℕ)} {old : List ℕ}
    (added : AddedBy count p x coats after queue more old) where
  pub added_paint : (h : List Node) (a : ℕ) (bs : List ℕ) → IsPaint h a bs coats → IsSo h a bs p x → IsPaint h a bs after
  added_paint h a bs paint so = record {
    coats_len = added.len ∙ paint.coats_len;
    each = λ q.
        ⊎_elim
        (λ (e : q ≡ p).
        subst (IsSo h a bs q) (sym (ap (paint_at after) e ∙ ap (λ (m : Coat). m.paint) added.here))
        (subst (λ (r : ℕ). IsSo h a bs r (joined (paint_at coats p) x)) (sym e)
        (so_joined h a bs p (paint_at coats p) x (paint.each p) so)))
        (λ (apart : q ≢ p).
        subst (IsSo h a bs q) (sym (ap (λ (m : Coat). m.paint) (added.adds.others q apart))) (paint.each q))
        (cases_eq q p);
  }

  pub added_level : {k : Ranking} → JoinsRanked k p queue more → (level : ℕ) → k.rank p ≤ level → IsLevel k coats queue level
      → IsLevel k after more level
  added_level joins level low is = record {
    above = λ q settled painted.
        (let same = added.adds.kept q settled in
        is.above q (sym (ap (λ (m : Coat). m.queued) same) ∙ settled)
        (subst (λ (m : Coat). is_painted m.paint ≡ true) same painted));
    below = joins.below level low is.below;
  }

-- The candidates, where no paint changes, and where nothing is known.
pub candidates_same : (coats after : List Coat) (candidates : List ℕ) → ((q : ℕ) → paint_at after q ≡ paint_at coats q)
    → AreCandidates coats candidates → AreCandidates after candidates
candidates_same coats after candidates same are = record {
  once = are.once;
  first = λ q contained. ap first_leads (same q) ∙ are.first q contained;
  others = λ q contained. ap others_lead (same q) ∙ are.others q contained;
  all = λ q base. are.all q (ap is_base (sym (same q)) ∙ base);
}

pub candidates_none : (coats : List Coat) → ((p : ℕ) → coat_at coats p ≡ bare) → AreCandidates coats []
candidates_none coats none = record {
  once = λ i j d lt lt'. absurd (omega arith);
  first = λ q (k, lt, at). absurd (omega arith);
  others = λ q (k, lt, at). absurd (omega arith);
  all = λ q base. absurd (false≢true (sym (ap (λ (m : Coat). is_base m.paint) (none q)) ∙ base));
}

-- Nothing is added, where it was known.
pub nothing_added : (coats : List Coat) (p : ℕ) (x : Paint) → covers (paint_at coats p) x ≡ true → Adds p x coats coats
nothing_added coats p x covered = record {
  kept = λ q _. refl;
  grows = λ q. grows_refl (paint_at coats q);
  has = covers_grows (paint_at coats p) x covered;
  others = λ q _. refl;
}

-- The queue, where a commit was pushed.
pub joins_pushed : (p g : ℕ) (old new : List (ℕ × ℕ)) → (IsHeap entry_cmp old → IsHeap entry_cmp new)
    → IsPermutation ((g, p) ∷ old) new → Joins p old new
joins_pushed p g old new order moved = record {
  order = order;
  within = λ count lt all.
      All-permutation (λ (y : ℕ × ℕ). y.1 < count) ((g, p) ∷ old) new moved
      (All-cons (λ (y : ℕ × ℕ). y.1 < count) (g, p) old lt all);
  holds = (g, Contains-permutation ((g, p) ∷ old) new (g, p) moved (at_head (g, p) old));
  keeps = λ y has. Contains-permutation ((g, p) ∷ old) new y moved (in_tail (g, p) y old has);
  longer = let len = length_permutation ((g, p) ∷ old) new moved in omega arith;
}

pub ranked_pushed : (k : Ranking) (p g : ℕ) (old new : List (ℕ × ℕ)) → g ≡ k.rank p → IsPermutation ((g, p) ∷ old) new
    → JoinsRanked k p old new
ranked_pushed k p g old new is moved = record {
  ranked = λ all. All-permutation (IsRanked k) ((g, p) ∷ old) new moved (All-cons (IsRanked k) (g, p) old is all);
  below = λ level low all.
      All-permutation (λ (y : ℕ × ℕ). y.0 ≤ level) ((g, p) ∷ old) new moved
      (All-cons (λ (y : ℕ × ℕ). y.0 ≤ level) (g, p) old (omega arith) all);
}

-- What was passed on stays so, as paint is added.
module _ (h : List Node) (a : ℕ) (bs : List ℕ) (p : ℕ) (x : Paint) (old new : List Coat) (adds : Adds p x old new) where
  pub passes_added : (q r : ℕ) → is_queued new q ≡ false
      → (is_queued old q ≡ false → Grows (passed (paint_at old q)) (paint_at old r))
      → Grows (passed (paint_at new q)) (paint_at new r)
  passes_added q r settled passes =
      let same = adds.kept q settled in
      subst (λ (m : Coat). Grows (passed m.paint) (paint_at new r)) (sym same)
      (grows_trans (passed (paint_at old q)) (paint_at old r) (paint_at new r)
      (passes (sym (ap (λ (m : Coat). m.queued) same) ∙ settled)) (adds.grows r))

  pub but_added : (one : ℕ) → IsSpreadBut h a bs old one → IsSpreadBut h a bs new one
  but_added one spread = record {
    first = (adds.grows a).first spread.first;
    others = λ s start. (adds.grows s).others (spread.others s start);
    passes = λ q r other settled parent. passes_added q r settled (λ was. spread.passes q r other was parent);
  }

-- What is so after a commit was taken from the queue.
pub record TakenBy (count : ℕ) (coats after : List Coat) (queue rest : List (ℕ × ℕ)) (next : ℕ × ℕ) : Type 0 where
  pub len : length after ≡ length coats
  pub same : (q : ℕ) → paint_at after q ≡ paint_at coats q
  pub waiting : IsWaiting count after rest
  pub here : is_queued after next.1 ≡ false
  pub there : (q : ℕ) → q ≢ next.1 → coat_at after q ≡ coat_at coats q
  pub work : work after rest < work coats queue

-- A queue gives this entry next, and the rest of it stays.
pub record IsNext (count : ℕ) (coats : List Coat) (queue rest : List (ℕ × ℕ)) (next : ℕ × ℕ) : Type 0 where
  pub coats_len : length coats ≡ count
  pub waiting : IsWaiting count coats queue
  pub moved : IsPermutation queue (next ∷ rest)
  pub order : IsHeap entry_cmp rest
  pub greatest : IsUpperBound entry_cmp next rest

-- Its commit is taken from the queue.
module _ {count : ℕ} {coats : List Coat} {queue rest : List (ℕ × ℕ)} {next : ℕ × ℕ}
    (is_next : IsNext count coats queue rest next) where
  open is_next use {coats_len, waiting, moved, order, greatest}

  taken_within : All (λ e. e.1 < count) (next ∷ rest)
  taken_within = All-permutation (λ (e : ℕ × ℕ). e.1 < count) queue (next ∷ rest) moved waiting.within

  pub next_within : next.1 < count
  next_within = All-head (λ (e : ℕ × ℕ). e.1 < count) next rest taken_within

  pub next_inside : next.1 < length coats
  next_inside = let in' = next_within in let len = coats_len in omega arith

  rest_low : All (λ e. e.0 ≤ next.0) rest
  rest_low = first_le_from_greatest nat_cmp next rest greatest

  queued_low : (g p : ℕ) → Contains queue (g, p) → g ≤ next.0
  queued_low g p has =
      All-contains (λ (e : ℕ × ℕ). e.0 ≤ next.0) (next ∷ rest) (g, p)
      (All-cons (λ (e : ℕ × ℕ). e.0 ≤ next.0) next rest (omega arith) rest_low)
      (Contains-permutation queue (next ∷ rest) (g, p) moved has)

  module _ {coat : Coat} {after : List Coat} (is_coat : coat ≡ record { paint = paint_at coats next.1; queued = false })
      (is_after : after ≡ set coats next.1 coat) where
    taken_here : (q : ℕ) → q ≡ next.1 → coat_at after q ≡ record { paint = paint_at coats next.1; queued = false }
    taken_here q e = ap (λ (ms : List Coat). coat_at ms q) is_after ∙ coat_here coats next.1 coat next_inside q e ∙ is_coat

    taken_there : (q : ℕ) → q ≢ next.1 → coat_at after q ≡ coat_at coats q
    taken_there q apart = ap (λ (ms : List Coat). coat_at ms q) is_after ∙ coat_there coats next.1 coat next_inside q apart

    same_paint : (q : ℕ) → paint_at after q ≡ paint_at coats q
    same_paint q =
        ⊎_elim
        (λ (e : q ≡ next.1). ap (λ (m : Coat). m.paint) (taken_here q e) ∙ ap (paint_at coats) (sym e))
        (λ (apart : q ≢ next.1). ap (λ (m : Coat). m.paint) (taken_there q apart))
        (cases_eq q next.1)

    taken_waiting : is_queued coats next.1 ≡ true → IsWaiting count after rest
    taken_waiting queued = record {
      order = order;
      within = All-tail (λ (e : ℕ × ℕ). e.1 < count) next rest taken_within;
      queued = λ q is.
          ⊎_elim
          (λ (e : q ≡ next.1).
          absurd (both_ways (is_queued after q) (ap (λ (m : Coat). m.queued) (taken_here q e)) is))
          (λ (apart : q ≢ next.1).
          let was = waiting.queued q (sym (ap (λ (m : Coat). m.queued) (taken_there q apart)) ∙ is) in
          ⊎_elim
          (λ (at : next ≡ (was.0, q)). absurd (apart (sym (ap (λ (y : ℕ × ℕ). y.1) at))))
          (λ (later : Contains rest (was.0, q)). (was.0, later))
          (head_or_tail next (was.0, q) rest (Contains-permutation queue (next ∷ rest) (was.0, q) moved was.1)))
          (cases_eq q next.1);
      count =
          let f : Coat → ℕ = λ m. cond m.queued 1 0 in
          let sums = sum_by-set f coats next.1 coat bare next_inside in
          let now : sum_by f after ≡ sum_by f (set coats next.1 coat) = ap (sum_by f) is_after in
          let none : f coat ≡ 0 = ap f is_coat in
          let one : f (coat_at coats next.1) ≡ 1 = ap (λ (b : Bool). cond {A = ℕ} b 1 0) queued in
          let len = length_permutation queue (next ∷ rest) moved in
          let was = waiting.count in
          omega arith;
    }

    taken_work : work after rest < work coats queue
    taken_work =
        let sums = sum_by-set (λ (m : Coat). unknown m.paint) coats next.1 coat bare next_inside in
        let now : sum_by (λ (m : Coat). unknown m.paint) after ≡ sum_by (λ (m : Coat). unknown m.paint) (set coats next.1 coat) =
        ap (sum_by (λ (m : Coat). unknown m.paint)) is_after in
        let same : unknown coat.paint ≡ unknown (paint_at coats next.1) = ap (λ (m : Coat). unknown m.paint) is_coat in
        let len = length_permutation queue (next ∷ rest) moved in
        omega arith

    pub taken_by : is_queued coats next.1 ≡ true → TakenBy count coats after queue rest next
    taken_by queued = record {
      len = ap length is_after ∙ length-set coats next.1 coat;
      same = same_paint;
      waiting = taken_waiting queued;
      here = ap (λ (m : Coat). m.queued) (taken_here next.1 refl);
      there = taken_there;
      work = taken_work;
    }

  -- What is so of its rank.
  module _ (k : Ranking) (ranked : All (IsRanked k) queue) where
    taken_ranked : All (IsRanked k) (next ∷ rest)
    taken_ranked = All-permutation (IsRanked k) queue (next ∷ rest) moved ranked

    pub next_rank : next.0 ≡ k.rank next.1
    next_rank = All-head (IsRanked k) next rest taken_ranked

    pub rest_ranked : All (IsRanked k) rest
    rest_ranked = All-tail (IsRanked k) next rest taken_ranked

    pub all_low : (p : ℕ) → is_queued coats p ≡ true → k.rank p ≤ next.0
    all_low p queued =
        let has = waiting.queued p queued in
        let is : has.0 ≡ k.rank p = All-contains (IsRanked k) queue (has.0, p) ranked has.1 in
        let low = queued_low has.0 p has.1 in
        omega arith

    module _ {level : ℕ} (levelled : IsLevel k coats queue level) where
      taken_low : next.0 ≤ level
      taken_low =
          All-head (λ (e : ℕ × ℕ). e.0 ≤ level) next rest
          (All-permutation (λ (e : ℕ × ℕ). e.0 ≤ level) queue (next ∷ rest) moved levelled.below)

      -- where it may stop
      pub stops : ((p : ℕ) → is_queued coats p ≡ true → is_stale (paint_at coats p) ≡ true) → next.0 < k.cap → IsDone k coats
      stops stale low = record {
        level = next.0;
        above = λ p settled painted. (let high = levelled.above p settled painted in let le = taken_low in omega arith);
        queued = stale;
        below = all_low;
        uncapped = λ p queued. (let le = all_low p queued in omega arith);
      }

      -- where it goes on
      pub taken_level : {after : List Coat} → TakenBy count coats after queue rest next
          → IsLevel k after rest (k.rank next.1)
      taken_level {after} taken = record {
        above = λ q settled painted.
            ⊎_elim
            (λ (e : q ≡ next.1). let same : k.rank q ≡ k.rank next.1 = ap (λ (x : ℕ). k.rank x) e in omega arith)
            (λ (apart : q ≢ next.1).
            let high =
            levelled.above q (sym (ap (λ (m : Coat). m.queued) (taken.there q apart)) ∙ settled)
            (subst (λ (y : Paint). is_painted y ≡ true) (taken.same q) painted) in
            let le = taken_low in
            let is = next_rank in
            omega arith)
            (cases_eq q next.1);
        below = subst (λ (g : ℕ). All (λ (e : ℕ × ℕ). e.0 ≤ g) rest) next_rank rest_low;
      }

-- What is so in a history after it was taken.
module _ {count : ℕ} {coats after : List Coat} {queue rest : List (ℕ × ℕ)} {next : ℕ × ℕ}
    (taken : TakenBy count coats after queue rest next) (h : List Node) (a : ℕ) (bs : List ℕ) where
  pub taken_paint : IsPaint h a bs coats → IsPaint h a bs after
  taken_paint paint = record {
    coats_len = taken.len ∙ paint.coats_len;
    each = λ q. subst (IsSo h a bs q) (sym (taken.same q)) (paint.each q);
  }

  pub taken_spread : IsSpread h a bs coats → IsSpreadBut h a bs after next.1
  taken_spread spread = record {
    first = ap first_leads (taken.same a) ∙ spread.first;
    others = λ s start. ap others_lead (taken.same s) ∙ spread.others s start;
    passes = λ p q other settled parent.
        (let was = spread.passes p q (sym (ap (λ (m : Coat). m.queued) (taken.there p other)) ∙ settled) parent in
        subst (λ (y : Paint). Grows (passed y) (paint_at after q)) (sym (taken.same p))
        (subst (Grows (passed (paint_at coats p))) (sym (taken.same q)) was));
  }

-- Where no coat is counted, none that is queued is fresh.
pub none_fresh : (count : ℕ) (coats : List Coat) (queue : List (ℕ × ℕ)) → IsWaiting count coats queue → length coats ≡ count
    → count_by is_fresh coats ≡ 0 → (p : ℕ) → is_queued coats p ≡ true → is_stale (paint_at coats p) ≡ true
none_fresh count coats queue waiting len none p queued =
    let has = waiting.queued p queued in
    let lt = All-contains (λ (e : ℕ × ℕ). e.1 < count) queue (has.0, p) waiting.within has.1 in
    let inside : p < length coats = omega arith in
    let bound = get_or-le-sum_by (λ (m : Coat). cond (is_fresh m) 1 0) coats p bare inside in
    by_cases (is_stale (paint_at coats p)) refl bound where
      by_cases : (s : Bool) → is_stale (paint_at coats p) ≡ s → cond (is_fresh (coat_at coats p)) 1 0 ≤ count_by is_fresh coats
          → s ≡ true
      by_cases true at bound = refl
      by_cases false at bound =
          let fresh : is_fresh (coat_at coats p) ≡ true =
          and_from (is_queued coats p) (not (is_stale (paint_at coats p))) queued
          (not_from_false (is_stale (paint_at coats p)) at) in
          let some : 1 ≤ count_by is_fresh coats =
          subst (λ (t : Bool). cond {A = ℕ} t 1 0 ≤ count_by is_fresh coats) fresh bound in
          absurd (omega arith)

-- An empty queue.
pub none_queued : (count : ℕ) (coats : List Coat) (queue : List (ℕ × ℕ)) → IsWaiting count coats queue → length queue ≡ 0
    → (p : ℕ) → is_queued coats p ≡ true → ⊥
none_queued count coats queue waiting none p queued =
    let has = waiting.queued p queued in let lt = has.1.1 in omega arith

pub stops_empty : (k : Ranking) (count : ℕ) (coats : List Coat) (queue : List (ℕ × ℕ)) (level : ℕ)
    → IsWaiting count coats queue → IsLevel k coats queue level → length queue ≡ 0 → IsDone k coats
stops_empty k count coats queue level waiting levelled none = record {
  level = level;
  above = levelled.above;
  queued = λ p queued. absurd (none_queued count coats queue waiting none p queued);
  below = λ p queued. absurd (none_queued count coats queue waiting none p queued);
  uncapped = λ p queued. absurd (none_queued count coats queue waiting none p queued);
}

-- The beginning.

pub so_first : (h : List Node) (a : ℕ) (bs : List ℕ) → a < length h → IsSo h a bs a First
so_first h a bs within = record {
  first = λ _. reaches_itself h a within;
  others = λ e. absurd (false≢true e);
  stale = λ e. absurd (false≢true e);
}

pub so_other : (h : List Node) (a : ℕ) (bs : List ℕ) (b : ℕ) → Contains bs b → b < length h → IsSo h a bs b Others
so_other h a bs b start within = record {
  first = λ e. absurd (false≢true e);
  others = λ _. (b, start, reaches_itself h b within);
  stale = λ e. absurd (false≢true e);
}

-- The first and n of the others are painted, and what is known is passed on.
pub record IsBegun (h : List Node) (a : ℕ) (bs : List ℕ) (n : ℕ) (coats : List Coat) : Type 0 where
  pub first : first_leads (paint_at coats a) ≡ true
  pub others : (k : ℕ) → k < n → others_lead (paint_at coats (get_or bs k 0)) ≡ true
  pub passes : (p q : ℕ) → is_queued coats p ≡ false → IsParent h p q → Grows (passed (paint_at coats p)) (paint_at coats q)

pub begun_more : (h : List Node) (a : ℕ) (bs : List ℕ) (n b : ℕ) (old new : List Coat) → IsBegun h a bs n old → get_or bs n 0 ≡ b
    → Adds b Others old new → IsBegun h a bs (n + 1) new
begun_more h a bs n b old new begun at adds = record {
  first = (adds.grows a).first begun.first;
  others = λ k below.
      ⊎_elim
      (λ (lo : k < n). (adds.grows (get_or bs k 0)).others (begun.others k lo))
      (λ (hi : n ≤ k).
      let same : n ≡ k = omega arith in
      ap (λ (i : ℕ). others_lead (paint_at new (get_or bs i 0))) (sym same) ∙ ap (λ (x : ℕ). others_lead (paint_at new x)) at
      ∙ adds.has.others refl)
      (cases_lt k n);
  passes = λ p q settled parent. passes_added h a bs b Others old new adds p q settled (λ was. begun.passes p q was parent);
}

pub begun_all : (h : List Node) (a : ℕ) (bs : List ℕ) (n : ℕ) (coats : List Coat) → IsBegun h a bs n coats → n ≡ length bs
    → IsSpread h a bs coats
begun_all h a bs n coats begun all = record {
  first = begun.first;
  others = λ s (k, lt, at).
      ap (λ (x : ℕ). others_lead (paint_at coats x)) (get_or_read bs k s lt (sym at) 0) ∙ begun.others k (omega arith);
  passes = begun.passes;
}

-- where nothing is known, and none is queued
module _ (h : List Node) (coats : List Coat) (queue : List (ℕ × ℕ)) (none : (p : ℕ) → coat_at coats p ≡ bare)
    (empty : queue ≡ []) where
  pub bare_level : (k : Ranking) (level : ℕ) → IsLevel k coats queue level
  bare_level k level = record {
    above = λ p settled painted.
        absurd (false≢true (sym (ap (λ (m : Coat). is_painted m.paint) (none p)) ∙ painted));
    below = subst (λ (es : List (ℕ × ℕ)). All (λ (e : ℕ × ℕ). e.0 ≤ level) es) (sym empty) (All-nil (λ (e : ℕ × ℕ). e.0 ≤ level));
  }

  bare_grows : (p q : ℕ) → Grows (passed (paint_at coats p)) (paint_at coats q)
  bare_grows p q =
      subst (λ (m : Coat). Grows (passed m.paint) (paint_at coats q)) (sym (none p)) (record {
        first = λ e. absurd (false≢true e);
        others = λ e. absurd (false≢true e);
        stale = λ e. absurd (false≢true e);
      })

  -- and the paint of the first was added
  pub begun_first : (a : ℕ) (bs : List ℕ) (one : List Coat) → Adds a First coats one → IsBegun h a bs 0 one
  begun_first a bs one adds = record {
    first = adds.has.first refl;
    others = λ k below. absurd (omega arith);
    passes = λ p q settled parent. passes_added h a bs a First coats one adds p q settled (λ _. bare_grows p q);
  }

-- The others, by number.
pub number_at : (positions : List Position) (i : ℕ)
    → get_or (numbers_of positions) i 0 ≡ (get_or positions i (record { 0 = 0 })).0
number_at [] i = refl
number_at (p ∷ ps) zero = refl
number_at (p ∷ ps) (suc i) = number_at ps i

pub number_contained : (positions : List Position) (i : ℕ) → i < length positions
    → Contains (numbers_of positions) (get_or positions i (record { 0 = 0 })).0
number_contained positions i lt =
    subst (λ (n : ℕ). Contains (numbers_of positions) n) (number_at positions i)
    (Contains-get_or (numbers_of positions) i 0 (omega (arith, lt, length-map positions (λ (p : Position). p.0))))
