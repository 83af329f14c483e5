-- No id stands twice in a graph with a new layer on top, where none did below.
use Rattle.std.proofs.Common.{◌≡◌, ◌⊎◌, inl, inr, ℕ, ◌+◌, ◌-◌, ◌<◌, ◌≤◌, List, ◌++◌, length, slice_get, Some, None}
use Rattle.std.proofs.Common.{sym, ap, ◌∙◌, ⊎_elim, arith}
use Rattle.std.proofs.lemmas.Bool.{cases_lt}
use Rattle.graph_format.specs.Lookup.{scan}
use Rattle.graph_format.specs.Order.{AreAscending}
use Rattle.graph_layer.proofs.AscendingIdLemmas.{ascending-less, not-less_itself}
use Rattle.gix_commitgraph.proofs.layers.LayerListLemmas.{get-front}
use Rattle.graph_writer.proofs.positions.KnownSteps.{get-back}
use Rattle.graph_writer.proofs.positions.NewIdSteps.{scan-misses}

-- no two positions hold one id
abbrev pub HoldOnce : List (List ℕ) → Type 0
HoldOnce ids = (p q : ℕ) (id : List ℕ) → slice_get ids p ≡ Some id → slice_get ids q ≡ Some id → p ≡ q

pub ascending-once : (ids : List (List ℕ)) → AreAscending ids → HoldOnce ids
ascending-once ids ascending p q id at_p at_q =
    ⊎_elim
    (λ (before : p < q). absurd (not-less_itself id (ascending-less ids p q id id ascending at_p at_q before)))
    (λ (not_before : q ≤ p).
    ⊎_elim
    (λ (after : q < p). absurd (not-less_itself id (ascending-less ids q p id id ascending at_q at_p after)))
    (λ (not_after : p ≤ q). omega arith)
    (cases_lt q p))
    (cases_lt p q)

module _ (a b : List (List ℕ)) where
  pub split : (p : ℕ) (id : List ℕ) → slice_get (a ++ b) p ≡ Some id
      → ((p < length a) × (slice_get a p ≡ Some id)) ⊎ ((length a ≤ p) × (slice_get b (p - length a) ≡ Some id))
  split p id here =
      ⊎_elim
      (λ (front : p < length a). inl (front, sym (get-front a b p front) ∙ here))
      (λ (back : length a ≤ p).
      let sum : length a + (p - length a) ≡ p = omega arith in
      inr (back, sym (get-back a b (p - length a)) ∙ ap (slice_get (a ++ b)) sum ∙ here))
      (cases_lt p (length a))

  pub once-more : HoldOnce a → AreAscending b → ((j : ℕ) (id : List ℕ) → slice_get b j ≡ Some id → scan a id ≡ None)
      → HoldOnce (a ++ b)
  once-more once ascending new p q id at_p at_q =
      elim (split p id at_p) [
        | inl low ↦
            elim (split q id at_q) [
              | inl other ↦ once p q id low.1 other.1
              | inr other ↦ absurd (scan-misses a id p (new (q - length a) id other.1) low.1)
            ]
        | inr high ↦
            elim (split q id at_q) [
              | inl other ↦ absurd (scan-misses a id q (new (p - length a) id high.1) other.1)
              | inr other ↦
                  let same = ascending-once b ascending (p - length a) (q - length a) id high.1 other.1 in
                  omega (arith, same, high.0, other.0)
            ]
      ]
