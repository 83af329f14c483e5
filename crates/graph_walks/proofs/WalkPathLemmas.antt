-- Walks, taken apart at their first commit.
use Rattle.std.proofs.Common.{◌≡◌, ℕ, suc, zero, ◌-◌, ◌<◌, ◌≤◌, List, [], ◌∷◌, length, slice_get, Some, refl, sym, ap, ◌∙◌, subst}
use Rattle.std.proofs.Common.{arith}
use Rattle.std.proofs.lemmas.Option.{same_Some, none-some}
use Rattle.graph_walks.specs.History.{Node, IsParent}
use Rattle.graph_walks.specs.Walks.{IsWalk, IsWalkBetween, HasWalk}

-- p followed by these commits is a walk from p to q
abbrev pub Path : List Node → ℕ → ℕ → List ℕ → Type 0
Path h p q [] = (p ≡ q) × (p < length h)
Path h p q (y ∷ rest) = IsParent h p y × Path h y q rest

last_from : ℕ → List ℕ → ℕ
last_from p [] = p
last_from p (q ∷ rest) = last_from q rest

walk_from_path : (h : List Node) (p q : ℕ) (rest : List ℕ) → Path h p q rest → IsWalk h (p ∷ rest)
walk_from_path h p q [] w = w.1
walk_from_path h p q (y ∷ rest) w = (w.0, walk_from_path h y q rest w.1)

path_from_walk : (h : List Node) (p : ℕ) (rest : List ℕ) → IsWalk h (p ∷ rest) → Path h p (last_from p rest) rest
unfolding last_from
path_from_walk h p [] w = (refl, w)
path_from_walk h p (q ∷ rest) w = (w.0, path_from_walk h q rest w.1)

last_is : (p : ℕ) (rest : List ℕ) → slice_get (p ∷ rest) (length rest) ≡ Some (last_from p rest)
unfolding last_from
last_is p [] = refl
last_is p (q ∷ rest) = last_is q rest

path_last : (h : List Node) (p q : ℕ) (rest : List ℕ) → Path h p q rest → last_from p rest ≡ q
unfolding last_from
path_last h p q [] w = w.0
path_last h p q (y ∷ rest) w = path_last h y q rest w.1

one_less : (n : ℕ) → suc n - 1 ≡ n
one_less n = omega arith

pub between_from_path : (h : List Node) (p q : ℕ) (rest : List ℕ) → Path h p q rest → IsWalkBetween h p q (p ∷ rest)
between_from_path h p q rest w = record {
  is_walk = walk_from_path h p q rest w;
  first = refl;
  last = rw (one_less (length rest)) (last_is p rest ∙ ap (λ x. Some x) (path_last h p q rest w));
}

pub path_from_between : (h : List Node) (p q : ℕ) (walk : List ℕ) → IsWalkBetween h p q walk → (rest : List ℕ) × (walk ≡ p ∷ rest)
    × Path h p q rest
path_from_between h p q [] b = absurd (none-some p b.first)
path_from_between h p q (x ∷ rest) b =
    let begins : x ≡ p = same_Some x p b.first in
    let ends : last_from x rest ≡ q = same_Some _ _ (sym (last_is x rest) ∙ (rw (one_less (length rest)) at b.last)) in
    let path : Path h x q rest = subst (λ (z : ℕ). Path h x z rest) ends (path_from_walk h x rest b.is_walk) in
    (rest, ap (λ (z : ℕ). z ∷ rest) begins, subst (λ (z : ℕ). Path h z q rest) begins path)

pub has_walk_from_path : (h : List Node) (p q : ℕ) (rest : List ℕ) → Path h p q rest → HasWalk h p (suc (length rest))
has_walk_from_path h p q rest w = (p ∷ rest, walk_from_path h p q rest w, refl, refl)

-- a walk of n commits from p, as a path
pub path_from_has_walk : (h : List Node) (p n : ℕ) → HasWalk h p n → (q : ℕ) × (rest : List ℕ) × Path h p q rest
    × (suc (length rest) ≡ n)
path_from_has_walk h p n w = by_cases w.0 w.1 w.2 w.3 where
  by_cases : (walk : List ℕ) → IsWalk h walk → slice_get walk 0 ≡ Some p → length walk ≡ n → (q : ℕ) × (rest : List ℕ)
      × Path h p q rest × (suc (length rest) ≡ n)
  by_cases [] is_walk first len = absurd is_walk
  by_cases (x ∷ rest) is_walk first len =
      let begins : x ≡ p = same_Some x p first in
      (last_from x rest, rest, subst (λ (z : ℕ). Path h z (last_from x rest) rest) begins (path_from_walk h x rest is_walk), len)

-- a path begins at a commit
pub begins_within : (h : List Node) (p q : ℕ) (rest : List ℕ) → Path h p q rest → p < length h
begins_within h p q [] w = w.1
begins_within h p q (y ∷ rest) w = w.0.0

-- the first commits of a path are a path
pub front_of_path : (h : List Node) (n p q : ℕ) (rest : List ℕ) → n ≤ length rest → Path h p q rest → (r : ℕ) × (front : List ℕ)
    × Path h p r front × (length front ≡ n)
front_of_path h zero p q rest n w = (p, [], (refl, begins_within h p q rest w), refl)
front_of_path h (suc n) p q [] le w = absurd (omega arith)
front_of_path h (suc n) p q (y ∷ rest) le w =
    let more = front_of_path h n y q rest (omega arith) w.1 in
    (more.0, y ∷ more.1, (w.0, more.2), ap suc more.3)
