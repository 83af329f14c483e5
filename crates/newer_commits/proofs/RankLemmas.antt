-- Ranks of newer commits, above the corrected dates of a base.
use Rattle.std.proofs.Common.{◌≡◌, ℕ, suc, zero, ◌+◌, ◌-◌, ◌<◌, ◌≤◌, max, min, if◌then◌else◌, List, [], ◌∷◌}
use Rattle.std.proofs.Common.{Contains, length, take, ap, subst, ⊎_elim, arith}
use Rattle.std.proofs.lemmas.Bool.{cases_lt, le-ltb, lt-ltb}
use Rattle.graph_walks.specs.Counts.{greatest}
use Rattle.graph_walks.specs.Dates.{number_at}
use Rattle.graph_walks.specs.History.{Node, parents_at}
use Rattle.graph_walks.proofs.GreatestLemmas.{greatest-cons}
use Rattle.commit_search.specs.Ranks.{FallsAlongParents, by_date}
use Rattle.newer_commits.specs.CommitsOnTop.{AreAfterParents, CommitsOnTop, nodes_on_top}
use Rattle.newer_commits.specs.JoinedHistory.{joined_history}
use Rattle.newer_commits.specs.RanksOnTop.{rank_on_top, ranking_on_top}
use Rattle.newer_commits.proofs.HistoryLemmas.{parent_below, parents_above}

-- none of some dates is above the latest
number_most : (dates : List ℕ) (p : ℕ) → number_at dates p ≤ greatest dates
number_most [] p = omega arith
number_most (d ∷ ds) zero = omega (arith, greatest-cons d ds)
number_most (d ∷ ds) (suc p) = omega (arith, number_most ds p, greatest-cons d ds)

-- the latest of one more
pub greatest_more : (dates : List ℕ) (n : ℕ) → n < length dates
    → greatest (take (suc n) dates) ≡ max (greatest (take n dates)) (number_at dates n)
greatest_more [] n lt = absurd (omega (arith, lt))
greatest_more (d ∷ ds) zero lt = omega (arith, greatest-cons d [])
greatest_more (d ∷ ds) (suc n) lt =
    omega (
      arith,
      greatest-cons d (take (suc n) ds),
      greatest-cons d (take n ds),
      greatest_more ds n (omega (arith, lt)),
    )

-- the rank of a commit of the base is its date
pub rank_below : (dates : List ℕ) (p : ℕ) → p < length dates → rank_on_top dates p ≡ number_at dates p
rank_below dates p lt =
    ap (λ b. if b then number_at dates p else (greatest dates + 1 + (p - length dates))) (lt-ltb p (length dates) lt)

-- that of a newer one is above all dates
pub rank_above : (dates : List ℕ) (p : ℕ) → length dates ≤ p → rank_on_top dates p ≡ greatest dates + 1 + (p - length dates)
rank_above dates p ge =
    ap (λ b. if b then number_at dates p else (greatest dates + 1 + (p - length dates))) (le-ltb p (length dates) ge)

-- the ranks of all fall along all parents, where the dates of the base do
pub falls_on_top : (base : List Node) (top : CommitsOnTop) (dates : List ℕ) → length base ≡ top.below
    → length dates ≡ top.below → AreAfterParents top → FallsAlongParents base (by_date dates)
    → FallsAlongParents (joined_history base (nodes_on_top top)) (ranking_on_top dates)
falls_on_top base top dates many dated after along = record {
  capped = λ p within. omega arith;
  falls = λ p q parent low.
      ⊎_elim
      (λ (below : p < length base).
      let is = parent_below base (nodes_on_top top) p below q parent in
      let here = rank_below dates p (omega (arith, below, many, dated)) in
      let there = rank_below dates q (omega (arith, is.1, many, dated)) in
      let lower : min (number_at dates p) 18446744073709551615 < 18446744073709551615 = omega (arith, low, here) in
      omega (arith, along.falls p q is lower, here, there))
      (λ (above : length base ≤ p).
      let named : Contains (parents_at (nodes_on_top top) (p - length base)) q =
      subst (λ (ps : List ℕ). Contains ps q) (parents_above base (nodes_on_top top) p above) parent.2 in
      let before : q < p = omega (arith, after (p - length base) q named, many, above) in
      let here = rank_above dates p (omega (arith, above, many, dated)) in
      ⊎_elim
      (λ (old : q < length dates).
      let there = rank_below dates q old in omega (arith, low, here, there, number_most dates q))
      (λ (newer : length dates ≤ q).
      let there = rank_above dates q newer in omega (arith, low, here, there, before, newer))
      (cases_lt q (length dates)))
      (cases_lt p (length base));
}
