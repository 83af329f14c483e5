-- What is carried along walks until a commit is queued, and what some commits reach.
use Rattle.std.proofs.Common.{◌≡◌, ◌⊎◌, ℕ, ◌≤◌, suc, zero, Contains, List, [], ◌∷◌, Bool, true, false, refl}
use Rattle.std.proofs.Common.{sym, subst, inl, inr, ⊎_elim, arith}
use Rattle.std.proofs.lemmas.Bool.{cases_Bool}
use Rattle.graph_walks.specs.History.{Node, IsParent}
use Rattle.graph_walks.specs.Walks.{Reaches, IsProperAncestor}
use Rattle.graph_walks.proofs.WalkPathLemmas.{Path, path_from_between, between_from_path}
use Rattle.graph_bases.specs.Bases.{IsReachedFromSome}
pub use Rattle.commit_search.proofs.ReachLemmas.{reaches_within, reaches_itself, proper_reaches, proper_step, proper_then}
pub use Rattle.commit_search.proofs.ReachLemmas.{reaches_then, step_reaches, first_step}

-- some queued commit is a proper descendant of this one
abbrev pub IsBelowQueued : List Node → (ℕ → Bool) → ℕ → Type 0
IsBelowQueued h queued q = (x : ℕ) × (queued x ≡ true) × IsProperAncestor h x q

module _ (h : List Node) (queued : ℕ → Bool) (P : ℕ → Type 0)
    (passes : (p q : ℕ) → queued p ≡ false → IsParent h p q → P p → P q) where
  along_path : (p q : ℕ) (rest : List ℕ) → Path h p q rest → P p → P q ⊎ IsBelowQueued h queued q
  along_path p q [] w has = inl (subst P w.0 has)
  along_path p q (y ∷ rest) w has =
      ⊎_elim
      (λ (t : queued p ≡ true). inr (p, t, (p ∷ y ∷ rest, between_from_path h p q (y ∷ rest) w, omega arith)))
      (λ (f : queued p ≡ false). along_path y q rest w.1 (passes p y f w.0 has))
      (cases_Bool (queued p))

  -- what is passed on from each commit that is not queued comes to the end of a walk, or to a queued commit on it
  pub carried : (p q : ℕ) → Reaches h p q → P p → P q ⊎ IsBelowQueued h queued q
  carried p q reaches has =
      let path = path_from_between h p q reaches.0 reaches.1 in along_path p q path.0 path.2 has

pub from_some_then : (h : List Node) (bs : List ℕ) (p q : ℕ) → IsReachedFromSome h bs p → Reaches h p q → IsReachedFromSome h bs q
from_some_then h bs p q some reaches = (some.0, some.1, reaches_then h some.0 p q some.2 reaches)

pub from_one : (h : List Node) (b p : ℕ) → IsReachedFromSome h (b ∷ []) p → Reaches h b p
from_one h b p (s, contained, reaches) =
    let is = only b s contained in subst (λ (x : ℕ). Reaches h x p) (sym is) reaches where
      only : (b s : ℕ) → Contains (b ∷ []) s → b ≡ s
      only b s (zero, lt, at) = at
      only b s (suc k, lt, at) = absurd (omega arith)

pub from_itself : (h : List Node) (b p : ℕ) → Reaches h b p → IsReachedFromSome h (b ∷ []) p
from_itself h b p reaches = (b, (0, omega arith, refl), reaches)
