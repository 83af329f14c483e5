-- For which paths a filter has bits (Git's commit-graph format, "Bloom Filter Data"): for those that the commit changed, and for
-- the directories that lead to them, without a `/` at the end.
use Rattle.std.specs.Prelude.{◌≡◌, ◌<◌, ◌⊎◌, ℕ, List, ◌∷◌, ◌++◌, All, Contains, length}
use Rattle.tree_changes.specs.Changes.{AreRisingTexts}

-- the directory leads to the path
abbrev pub LeadsTo : List ℕ → List ℕ → Type 0
LeadsTo directory path = (rest : List ℕ) × (path ≡ directory ++ 47 ∷ rest)

-- the path is changed, or a directory that leads to one that is
abbrev pub IsTouched : (List ℕ → Type 0) → List ℕ → Type 0
IsTouched IsOneChanged path = IsOneChanged path ⊎ ((below : List ℕ) × IsOneChanged below × LeadsTo path below)

-- These are the paths that are touched, each once, in the order of their bytes.
pub record AreTouched (IsOneChanged : List ℕ → Type 0) (paths : List (List ℕ)) : Type 0 where
  pub rising : AreRisingTexts paths
  pub each : All (IsTouched IsOneChanged) paths
  pub all : (path : List ℕ) → IsTouched IsOneChanged path → Contains paths path

-- More paths than so many are touched.
pub record AreMoreTouched (IsOneChanged : List ℕ → Type 0) (most : ℕ) : Type 0 where
  pub paths : List (List ℕ)
  pub rising : AreRisingTexts paths
  pub each : All (IsTouched IsOneChanged) paths
  pub more : most < length paths
