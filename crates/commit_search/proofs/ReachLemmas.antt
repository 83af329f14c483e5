-- Walks joined at their ends, and taken apart.
use Rattle.std.proofs.Common.{◌≢◌, ℕ, ◌≤◌, ◌<◌, List, [], ◌∷◌, ◌++◌, length, refl, sym, subst, arith}
use Rattle.std.proofs.lemmas.List.{length_push, length-append}
use Rattle.graph_walks.specs.History.{Node, IsParent}
use Rattle.graph_walks.specs.Walks.{Reaches, IsProperAncestor}
use Rattle.graph_walks.proofs.WalkPathLemmas.{Path, path_from_between, between_from_path, begins_within}

path_step : (h : List Node) (p q r : ℕ) (rest : List ℕ) → Path h p q rest → IsParent h q r → Path h p r (rest ++ r ∷ [])
path_step h p q r [] w parent = (subst (λ (x : ℕ). IsParent h x r) (sym w.0) parent, (refl, parent.1))
path_step h p q r (y ∷ rest) w parent = (w.0, path_step h y q r rest w.1 parent)

path_append : (h : List Node) (p q r : ℕ) (xs ys : List ℕ) → Path h p q xs → Path h q r ys → Path h p r (xs ++ ys)
path_append h p q r [] ys w v = subst (λ (x : ℕ). Path h x r ys) (sym w.0) v
path_append h p q r (x ∷ xs) ys w v = (w.0, path_append h x q r xs ys w.1 v)

path_ends : (h : List Node) (p q : ℕ) (rest : List ℕ) → Path h p q rest → q < length h
path_ends h p q [] w = subst (λ (x : ℕ). x < length h) w.0 w.1
path_ends h p q (y ∷ rest) w = path_ends h y q rest w.1

pub reaches_within : (h : List Node) (p q : ℕ) → Reaches h p q → q < length h
reaches_within h p q reaches =
    let path = path_from_between h p q reaches.0 reaches.1 in path_ends h p q path.0 path.2

pub starts_within : (h : List Node) (p q : ℕ) → Reaches h p q → p < length h
starts_within h p q reaches =
    let path = path_from_between h p q reaches.0 reaches.1 in begins_within h p q path.0 path.2

pub reaches_itself : (h : List Node) (p : ℕ) → p < length h → Reaches h p p
reaches_itself h p within = (p ∷ [], between_from_path h p p [] (refl, within))

pub proper_reaches : (h : List Node) (p q : ℕ) → IsProperAncestor h p q → Reaches h p q
proper_reaches h p q proper = (proper.0, proper.1)

-- one step more is a proper walk
pub proper_step : (h : List Node) (p q r : ℕ) → Reaches h p q → IsParent h q r → IsProperAncestor h p r
proper_step h p q r reaches parent =
    let path = path_from_between h p q reaches.0 reaches.1 in (
      p ∷ (path.0 ++ r ∷ []),
      between_from_path h p r (path.0 ++ r ∷ []) (path_step h p q r path.0 path.2 parent),
      omega (arith, length_push path.0 r),
    )

pub proper_then : (h : List Node) (p q r : ℕ) → IsProperAncestor h p q → Reaches h q r → IsProperAncestor h p r
proper_then h p q r proper reaches =
    let front = path_from_between h p q proper.0 proper.1 in
    let back = path_from_between h q r reaches.0 reaches.1 in
    let two : 2 ≤ length (p ∷ front.0) = subst (λ (walk : List ℕ). 2 ≤ length walk) front.1 proper.2 in (
      p ∷ (front.0 ++ back.0),
      between_from_path h p r (front.0 ++ back.0) (path_append h p q r front.0 back.0 front.2 back.2),
      omega (arith, two, length-append front.0 back.0),
    )

pub reaches_then : (h : List Node) (p q r : ℕ) → Reaches h p q → Reaches h q r → Reaches h p r
reaches_then h p q r first second =
    let front = path_from_between h p q first.0 first.1 in
    let back = path_from_between h q r second.0 second.1 in (
      p ∷ (front.0 ++ back.0),
      between_from_path h p r (front.0 ++ back.0) (path_append h p q r front.0 back.0 front.2 back.2),
    )

pub step_reaches : (h : List Node) (p q : ℕ) → IsParent h p q → Reaches h p q
step_reaches h p q parent = (p ∷ q ∷ [], between_from_path h p q (q ∷ []) (parent, (refl, parent.1)))

-- a proper walk, taken apart after its first step
pub first_step : (h : List Node) (p q : ℕ) → IsProperAncestor h p q → (y : ℕ) × IsParent h p y × Reaches h y q
first_step h p q proper =
    let path = path_from_between h p q proper.0 proper.1 in
    by_cases path.0 path.2 (subst (λ (walk : List ℕ). 2 ≤ length walk) path.1 proper.2) where
      by_cases : (rest : List ℕ) → Path h p q rest → 2 ≤ length (p ∷ rest) → (y : ℕ) × IsParent h p y × Reaches h y q
      by_cases [] w two = absurd (omega arith)
      by_cases (y ∷ rest) w two = (y, w.0, (y ∷ rest, between_from_path h y q rest w.1))

-- a walk between two commits that differ is a proper one
pub reaches_apart : (h : List Node) (p q : ℕ) → p ≢ q → Reaches h p q → IsProperAncestor h p q
reaches_apart h p q apart reaches =
    let path = path_from_between h p q reaches.0 reaches.1 in by_cases path.0 path.2 where
      by_cases : (rest : List ℕ) → Path h p q rest → IsProperAncestor h p q
      by_cases [] w = absurd (apart w.0)
      by_cases (y ∷ rest) w = (p ∷ y ∷ rest, between_from_path h p q (y ∷ rest) w, omega arith)
