-- How many commits the search visits.
use Rattle.std.proofs.Common.{◌≡◌, ◌≢◌, ◌↔◌, ℕ, suc, zero, ◌<◌, ◌≤◌, List, [], ◌∷◌, length, map, take, get_or}
use Rattle.std.proofs.Common.{All, AllPairs, refl, sym, ◌∙◌, subst, arith}
use Rattle.std.specs.Cmp.{unsigned_Decides}
use Rattle.std.proofs.lemmas.List.{length-map, length-take-le, get_or-take}
use Rattle.std.proofs.lemmas.List.Elements.{All-contains, All-take, Contains-get_or}
use Rattle.std.proofs.lemmas.Map.Made.{IsDistinct-from_AllPairs}
use Rattle.std.proofs.lemmas.Map.Steps.{length-le_from_distinct_below}
use Rattle.std.proofs.lemmas.Map.Views.{Contains-from_any}
use Rattle.commit_search.specs.Cardinality.{AtLeast, AtMost, Lists}
use Rattle.commit_search.proofs.CardinalityLemmas.{no_more}
use Rattle.commit_search.specs.Marks.{Marked}
use Rattle.commit_search.specs.Queue.{IsQueueOf, IsQueued, commit_in}

-- the commits of a queue
commits_of : List Marked → List ℕ
commits_of queued = map (λ f. f.number) queued

commits_at : (queued : List Marked) (i d : ℕ) → i < length queued → get_or (commits_of queued) i d ≡ commit_in queued i
unfolding commits_of
commits_at [] i d lt = absurd (omega arith)
commits_at (f ∷ fs) zero d lt = refl
commits_at (f ∷ fs) (suc i) d lt = commits_at fs i d (omega arith)

length-commits_of : (queued : List Marked) → length (commits_of queued) ≡ length queued
unfolding commits_of
length-commits_of queued = length-map queued (λ f. f.number)

all_have : (ps : List ℕ) (P : ℕ → Type 0) → Lists ps P → All P ps
all_have ps P lists k d lt = (lists.those (get_or ps k d)).0 (Contains-get_or ps k d lt)

-- Where some numbers are those with a property, each of them once, they count it.
module _ (ps : List ℕ) (P : ℕ → Type 0) (lists : Lists ps P) where
  pub counted_least : (n : ℕ) → AtLeast n P ↔ (n ≤ length ps)
  counted_least n = (
    (λ (qs, len, apart, all). (let bound =
        no_more qs ps apart (λ q contained. (lists.those q).1 (All-contains P qs q all contained)) in omega (arith, bound, len))),
    (λ le. (
      take n ps,
      length-take-le n ps le,
      (λ i j d lt lt' same. lists.once i j d lt (omega (arith, lt', length-take-le n ps le))
          (sym (get_or-take n ps i d (omega (arith, lt, lt', length-take-le n ps le))) ∙ same
          ∙ get_or-take n ps j d (omega (arith, lt', length-take-le n ps le)))),
      All-take P n ps (all_have ps P lists),
    )),
  )

  pub counted_most : (n : ℕ) → AtMost n P ↔ (length ps ≤ n)
  counted_most n = (
    (λ most. most ps lists.once (all_have ps P lists)),
    (λ le qs apart all. (let bound = no_more qs ps apart (λ q contained. (lists.those q).1 (All-contains P qs q all contained)) in
        omega (arith, bound, le))),
  )

module _ (count : ℕ) (Keeps : ℕ → Type 0) (Leads : ℕ → ℕ → Type 0) (queued : List Marked)
    (queue : IsQueueOf count Keeps Leads queued) where
  apart : AllPairs (λ p q. p ≢ q) (commits_of queued)
  apart i j d lt lt' same =
      let len = length-commits_of queued in
      let equal : i ≡ j =
      queue.once i j (omega arith) (omega arith) (sym (commits_at queued i d (omega arith)) ∙ same
      ∙ commits_at queued j d (omega arith)) in
      omega arith

  -- no commit is queued twice, so the queue has no more than there are commits
  pub length-queued : length queued ≤ count
  length-queued =
      let len = length-commits_of queued in
      let bound =
      length-le_from_distinct_below (commits_of queued) count
      (IsDistinct-from_AllPairs unsigned_Decides (commits_of queued) apart) (λ q e.
      let at = Contains-from_any (λ x y t. (unsigned_Decides x y).0 t) q (commits_of queued) e in
      let lt : at.0 < length queued = omega (arith, at.1) in
      let within = queue.within at.0 lt in
      omega (arith, sym (commits_at queued at.0 q lt) ∙ at.2)) in
      omega arith

  -- the first n that were queued are n different commits
  pub visited : (P : ℕ → Type 0) (n : ℕ) → n ≤ length queued → ((i : ℕ) → i < n → P (commit_in queued i)) → AtLeast n P
  visited P n le each =
      let len = length-commits_of queued in
      let length_first : length (take n (commits_of queued)) ≡ n = length-take-le n (commits_of queued) (omega arith) in (
        take n (commits_of queued),
        length_first,
        (λ i j d lt lt' same. apart i j d lt (omega arith) (sym (get_or-take n (commits_of queued) i d (omega arith)) ∙ same
            ∙ get_or-take n (commits_of queued) j d (omega arith))),
        (λ k d lt. subst P (sym (get_or-take n (commits_of queued) k d (omega arith) ∙ commits_at queued k d (omega arith)))
            (each k (omega arith))),
      )

  -- where each number of a kind was queued, there are no more of them than were queued
  pub all_visited : (P : ℕ → Type 0) (n : ℕ) → length queued ≤ n → ((p : ℕ) → P p → IsQueued queued p) → AtMost n P
  all_visited P n le each ps differ all =
      let len = length-commits_of queued in
      let bound = no_more ps (commits_of queued) differ (λ q contained.
      let at = each q (All-contains P ps q all contained) in
      (at.0, (let lt = at.1 in omega arith), commits_at queued at.0 q at.1 ∙ at.2)) in
      omega arith
