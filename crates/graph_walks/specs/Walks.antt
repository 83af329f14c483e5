-- Walks along parents, and Git's topological level of a commit ("generation number v1" in its commit-graph design): the
-- number of commits of the longest walk from it, which stays at a cap where walks are longer.
use Rattle.std.specs.Prelude.{◌≡◌, ◌↔◌, ℕ, ◌+◌, ◌-◌, ◌<◌, ◌≤◌, List, [], ◌∷◌, length, slice_get, Option, Some, None}
use Rattle.graph_walks.specs.History.{Node, IsParent, generation_at}
use Rattle.graph_walks.specs.declared.TheConstants.{GENERATION_NUMBER_MAX}

-- each commit after the first is a parent of the one before it; commits may repeat
abbrev pub IsWalk : List Node → List ℕ → Type 0
IsWalk history [] = ⊥
IsWalk history (p ∷ []) = p < length history
IsWalk history (p ∷ q ∷ rest) = IsParent history p q × IsWalk history (q ∷ rest)

-- A walk that begins with p and ends with q.
pub record IsWalkBetween (history : List Node) (p q : ℕ) (walk : List ℕ) : Type 0 where
  pub is_walk : IsWalk history walk
  pub first : slice_get walk 0 ≡ Some p
  pub last : slice_get walk (length walk - 1) ≡ Some q

-- some walk of n commits begins with p
abbrev pub HasWalk : List Node → ℕ → ℕ → Type 0
HasWalk history p n = (walk : List ℕ) × IsWalk history walk × (slice_get walk 0 ≡ Some p) × (length walk ≡ n)

-- some walk leads from p to q; each commit reaches itself
abbrev pub Reaches : List Node → ℕ → ℕ → Type 0
Reaches history p q = (walk : List ℕ) × IsWalkBetween history p q walk

-- some walk of at least two commits leads from p to q
abbrev pub IsProperAncestor : List Node → ℕ → ℕ → Type 0
IsProperAncestor history p q = (walk : List ℕ) × IsWalkBetween history p q walk × (2 ≤ length walk)

-- g is the number of commits of the longest walk from p, or the cap where there are walks as long as the cap
pub record HasGeneration (history : List Node) (p g : ℕ) : Type 0 where
  pub capped : g ≤ GENERATION_NUMBER_MAX
  pub counts : (n : ℕ) → 1 ≤ n → n ≤ GENERATION_NUMBER_MAX → HasWalk history p n ↔ (n ≤ g)

-- each stored generation number is that of its commit
abbrev pub CountWalks : List Node → Type 0
CountWalks history = (p : ℕ) → p < length history → HasGeneration history p (generation_at history p)

-- k is the greatest number of edges on a walk, and 0 where there are no commits
pub record IsLongestWalk (history : List Node) (k : ℕ) : Type 0 where
  pub reached : 0 < length history → (p : ℕ) × HasWalk history p (k + 1)
  pub none : length history ≡ 0 → k ≡ 0
  pub longest : (p m : ℕ) → HasWalk history p (m + 1) → m ≤ k

-- some commit has the greatest generation number that can be stored
abbrev pub IsCapped : List Node → Type 0
IsCapped history = (p : ℕ) × (p < length history) × (generation_at history p ≡ GENERATION_NUMBER_MAX)

-- the answer is the number of edges of the longest walk, and there is none where a commit's generation number is at the cap
abbrev pub MatchesLongestWalk : List Node → Option ℕ → Type 0
MatchesLongestWalk history None = IsCapped history
MatchesLongestWalk history (Some k) = (¬ IsCapped history) × IsLongestWalk history k
