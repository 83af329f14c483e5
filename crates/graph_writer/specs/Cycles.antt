-- Which of the commits that are handed in are ancestors of themselves, by the ids that they name ("parent" in Git's commit
-- objects).
use Rattle.std.specs.Prelude.{◌≡◌, ℕ, ◌-◌, ◌<◌, ◌≤◌, List, [], ◌∷◌, Contains, length, slice_get, Some}
use Rattle.graph_writer.specs.declared.commit.NewCommit.{NewCommit}

-- Commit i names the id of commit j among its parents.
pub record NamesCommit (commits : List NewCommit) (i j : ℕ) : Type 0 where
  pub child : NewCommit
  pub parent : NewCommit
  pub at_child : slice_get commits i ≡ Some child
  pub at_parent : slice_get commits j ≡ Some parent
  pub named : Contains child.parents.items parent.id

-- each commit after the first is named by the one before it
abbrev pub IsNewWalk : List NewCommit → List ℕ → Type 0
IsNewWalk commits [] = ⊥
IsNewWalk commits (i ∷ []) = i < length commits
IsNewWalk commits (i ∷ j ∷ rest) = NamesCommit commits i j × IsNewWalk commits (j ∷ rest)

-- A walk of two commits or more leads from commit i back to it.
pub record IsOwnAncestor (commits : List NewCommit) (i : ℕ) : Type 0 where
  pub walk : List ℕ
  pub is_walk : IsNewWalk commits walk
  pub first : slice_get walk 0 ≡ Some i
  pub last : slice_get walk (length walk - 1) ≡ Some i
  pub long : 2 ≤ length walk

-- No commit is its own proper ancestor.
abbrev pub HaveNoCycle : List NewCommit → Type 0
HaveNoCycle commits = (i : ℕ) → ¬ IsOwnAncestor commits i
