-- The answers that are known without a search.
use Rattle.std.proofs.Common.{ℕ, zero, suc, ◌<◌, ◌≤◌, List, [], ◌∷◌, length, get_or, refl, ap, Some, arith, inl, inr}
use Rattle.std.proofs.Common.{⊎_elim, ◌≡◌, Result, Ok, Err, OnErr}
use Rattle.std.proofs.lemmas.Bool.{cases_lt}
use Rattle.std.proofs.lemmas.Option.{none-some}
use Rattle.graph_walks.specs.declared.TheConstants.{GENERATION_NUMBER_MAX}
use Rattle.graph_walks.specs.History.{Node, generation_at}
use Rattle.graph_walks.specs.Walks.{IsWalkBetween, Reaches}
use Rattle.commit_search.specs.WalkAnswer.{IsShortestWalk, IsAtOrAbove, IsAbove, MayLead}
use Rattle.commit_search.specs.Cardinality.{AtLeast, AtMost}

-- of a commit itself, which is named by two positions
module _ (h : List Node) (p q : ℕ) (same : p ≡ q) (within : p < length h) where
  pub one_walk : IsWalkBetween h p q (p ∷ [])
  one_walk = record { is_walk = within; first = refl; last = ap Some same }

  not_shorter : (other : List ℕ) → IsWalkBetween h p q other → 1 ≤ length other
  not_shorter [] walk = absurd (none-some p walk.first)
  not_shorter (r ∷ rest) walk = omega arith

  pub one_is_shortest : IsShortestWalk h p q (p ∷ [])
  one_is_shortest = record { between = one_walk; least = not_shorter }

  itself_at_or_above : IsAtOrAbove h p q p
  itself_at_or_above =
      ((p ∷ [], record { is_walk = within; first = refl; last = refl }), omega (arith, ap (generation_at h) same))

  one_at_or_above : (k d : ℕ) → k < 1 → IsAtOrAbove h p q (get_or (p ∷ []) k d)
  one_at_or_above zero d lt = itself_at_or_above
  one_at_or_above (suc k) d lt = absurd (omega arith)

  -- one visit, of the commit itself
  pub one_is_visited : AtLeast 1 (IsAtOrAbove h p q)
  one_is_visited = (p ∷ [], refl, (λ i j d lt lt' same. absurd (omega arith)), one_at_or_above)

-- no visit
pub none_is_visited : (P : ℕ → Type 0) → AtLeast 0 P
none_is_visited P = ([], refl, (λ i j d lt lt' same. omega arith), (λ k d lt. absurd (omega arith)))

pub none_is_above : (h : List Node) (from to : ℕ) → ((p q : ℕ) → Reaches h p q → generation_at h q ≤ generation_at h p)
    → generation_at h from ≤ generation_at h to → AtMost 0 (IsAbove h from to)
none_is_above h from to never_rises below [] apart all = omega arith
none_is_above h from to never_rises below (p ∷ ps) apart all =
    let above = all 0 p (omega arith) in
    absurd (omega (arith, never_rises from p above.0, above.1))

pub always_err : {T E Q : Type 0} (r : Result T E) → Q → OnErr r Q
always_err (Ok x) q = tt
always_err (Err e) q = q

-- numbers that stay or rise from one commit to another, and allow a walk all the same, are at the cap
pub may_lead : (h : List Node) (from to : ℕ)
    → (generation_at h from ≤ generation_at h to → GENERATION_NUMBER_MAX ≤ generation_at h from) → MayLead h from to
may_lead h from to allowed =
    elim (cases_lt (generation_at h to) (generation_at h from)) [ inl falls ↦ inl falls | inr stays ↦ inr (allowed stays) ]

-- where they allow a walk, they do not both stay and lie below the cap
pub led_somewhere : (h : List Node) (from to : ℕ) → MayLead h from to → generation_at h from ≤ generation_at h to
    → generation_at h from < GENERATION_NUMBER_MAX → ⊥
led_somewhere h from to leads low below =
    ⊎_elim
    (λ (falls : generation_at h to < generation_at h from). omega arith)
    (λ (capped : GENERATION_NUMBER_MAX ≤ generation_at h from). omega arith)
    leads
