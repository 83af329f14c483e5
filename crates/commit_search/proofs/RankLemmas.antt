-- Ranks that fall along parents, along walks.
use Rattle.std.proofs.Common.{◌≡◌, ℕ, ◌<◌, ◌≤◌, List, [], ◌∷◌, ap, ⊎_elim, arith}
use Rattle.std.proofs.lemmas.Bool.{cases_lt}
use Rattle.graph_walks.specs.declared.TheConstants.{GENERATION_NUMBER_MAX}
use Rattle.graph_walks.specs.Dates.{number_at}
use Rattle.graph_walks.specs.History.{Node, IsParent, generation_at}
use Rattle.graph_walks.specs.Walks.{CountWalks, Reaches, IsProperAncestor}
use Rattle.graph_walks.proofs.WalkPathLemmas.{Path, path_from_between}
use Rattle.commit_search.specs.Ranks.{Ranking, FallsAlongParents, by_date, by_generation}
use Rattle.commit_search.proofs.ReachLemmas.{first_step, proper_step, reaches_itself, step_reaches}

module _ {h : List Node} {k : Ranking} (along : FallsAlongParents h k) where
  pub step_never_rises : (p q : ℕ) → IsParent h p q → k.rank q ≤ k.rank p
  step_never_rises p q parent =
      ⊎_elim
      (λ (below : k.rank p < k.cap). let fall = along.falls p q parent below in omega arith)
      (λ (at : k.cap ≤ k.rank p). let capped = along.capped q parent.1 in omega arith)
      (cases_lt (k.rank p) k.cap)

  step_falls : (p q : ℕ) → IsParent h p q → k.rank q < k.cap → k.rank q < k.rank p
  step_falls p q parent low =
      ⊎_elim
      (λ (below : k.rank p < k.cap). along.falls p q parent below)
      (λ (at : k.cap ≤ k.rank p). omega arith)
      (cases_lt (k.rank p) k.cap)

  path_never_rises : (p q : ℕ) (rest : List ℕ) → Path h p q rest → k.rank q ≤ k.rank p
  path_never_rises p q [] w = let same : k.rank p ≡ k.rank q = ap (λ (x : ℕ). k.rank x) w.0 in omega arith
  path_never_rises p q (y ∷ rest) w =
      let first = step_never_rises p y w.0 in let later = path_never_rises y q rest w.1 in omega arith

  pub never_rises : (p q : ℕ) → Reaches h p q → k.rank q ≤ k.rank p
  never_rises p q reaches =
      let path = path_from_between h p q reaches.0 reaches.1 in path_never_rises p q path.0 path.2

  pub falls_along : (p q : ℕ) → IsProperAncestor h p q → k.rank q < k.cap → k.rank q < k.rank p
  falls_along p q proper low =
      let step = first_step h p q proper in
      let later = never_rises step.0 q step.2 in
      ⊎_elim
      (λ (below : k.rank step.0 < k.cap). let fall = step_falls p step.0 step.1 below in omega arith)
      (λ (at : k.cap ≤ k.rank step.0). let rise = step_never_rises p step.0 step.1 in omega arith)
      (cases_lt (k.rank step.0) k.cap)

-- Both numbers are such ranks.

pub generations_along : (h : List Node) → CountWalks h
    → ((p q : ℕ) → Reaches h p q → generation_at h q ≤ generation_at h p)
    → ((p q : ℕ) → IsProperAncestor h p q → generation_at h q < GENERATION_NUMBER_MAX → generation_at h q < generation_at h p)
    → FallsAlongParents h (by_generation h)
generations_along h counts rises falls = record {
  capped = λ p within. (counts p within).capped;
  falls = λ p q parent below.
      (let low : generation_at h p < GENERATION_NUMBER_MAX = below in
      let rise = rises p q (step_reaches h p q parent) in
      falls p q (proper_step h p p q (reaches_itself h p parent.0) parent) (omega arith));
}

pub dates_along : (h : List Node) (dates : List ℕ)
    → ((p q : ℕ) → IsProperAncestor h p q → number_at dates q < number_at dates p) → FallsAlongParents h (by_date dates)
dates_along h dates falls = record {
  capped = λ p within. omega arith;
  falls = λ p q parent below.
      (let fall = falls p q (proper_step h p p q (reaches_itself h p parent.0) parent) in omega (arith, fall, below));
}
