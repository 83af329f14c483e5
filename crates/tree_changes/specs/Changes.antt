-- What changes from one tree to another.
use Rattle.std.specs.Prelude.{◌≡◌, ◌≢◌, ◌<◌, ◌≤◌, ◌+◌, ◌⊎◌, ⊤, ℕ, List, [], ◌∷◌, All, Contains, length, Option, Some, None}
use Rattle.std.specs.List.{sum_by}
use Rattle.std.specs.Ordering.{nat_cmp}
use Rattle.std.specs.Cmp.Lexicographic.{slice_cmp}
use Rattle.std.specs.declared.cmp.Ordering.TheVariants.{Less}
use Rattle.tree_objects.specs.Tree.{IsName}
use Rattle.tree_changes.specs.Stands.{World, TreePath, joined, IsChanged, HasOtherDirectory, directory_at, item_id}
use Rattle.tree_changes.specs.declared.changes.Refusal.{Refusal}
use Rattle.tree_changes.specs.declared.changes.Refusal.TheVariants.{TooMany, TooDeep, TooMuch, Source, OutOfMemory}

-- each of these texts comes before all that follow it, in the order of their bytes
abbrev pub AreRisingTexts : List (List ℕ) → Type 0
AreRisingTexts [] = ⊤
AreRisingTexts (first ∷ texts) = All (λ text. slice_cmp nat_cmp first text ≡ Less) texts × AreRisingTexts texts

-- The text is a path that is changed, whose names are names of entries.
pub record IsChangedText (world : World) (old new : Option (List ℕ)) (text : List ℕ) : Type 0 where
  pub path : TreePath
  pub directories : All IsName path.directories
  pub name : IsName path.name
  pub text_is : text ≡ joined path
  pub changed : IsChanged world old new path

-- These are the paths that are changed, each once, in the order of their bytes.
pub record AreChanged (world : World) (old new : Option (List ℕ)) (texts : List (List ℕ)) : Type 0 where
  pub rising : AreRisingTexts texts
  pub each : All (IsChangedText world old new) texts
  pub all : (path : TreePath) → IsChanged world old new path → Contains texts (joined path)

-- These are the first of the paths that are changed, in the order of their bytes: each other one comes behind them all.
pub record AreFirstChanged (world : World) (old new : Option (List ℕ)) (texts : List (List ℕ)) : Type 0 where
  pub rising : AreRisingTexts texts
  pub each : All (IsChangedText world old new) texts
  pub others : (path : TreePath) → IsChanged world old new path
      → Contains texts (joined path) ⊎ All (λ text. slice_cmp nat_cmp text (joined path) ≡ Less) texts

-- More than so many paths are changed.
pub record AreMore (world : World) (old new : Option (List ℕ)) (most : ℕ) : Type 0 where
  pub texts : List (List ℕ)
  pub rising : AreRisingTexts texts
  pub each : All (IsChangedText world old new) texts
  pub more : most < length texts

-- Other directories stand at a path of at least so many names, so the paths below it have more.
pub record IsDeeper (world : World) (old new : Option (List ℕ)) (most : ℕ) : Type 0 where
  pub path : TreePath
  pub other : HasOtherDirectory world old new path
  pub long : most ≤ length path.directories + 1

-- how many trees these are, of two that may be none
abbrev pub one_if_some : {X : Type 0} → Option X → ℕ
one_if_some None = 0
one_if_some (Some x) = 1

-- how many directories stand at a path, in two trees
abbrev pub trees_at : World → Option (List ℕ) → Option (List ℕ) → TreePath → ℕ
trees_at world old new path = one_if_some (directory_at world old path) + one_if_some (directory_at world new path)

-- each of these paths is there once
abbrev pub AreDistinctPaths : List TreePath → Type 0
AreDistinctPaths [] = ⊤
AreDistinctPaths (first ∷ paths) = All (λ path. path ≢ first) paths × AreDistinctPaths paths

-- More trees than so many have to be read: both, and those at paths where other directories stand.
pub record IsMuch (world : World) (old new : Option (List ℕ)) (most : ℕ) : Type 0 where
  pub paths : List TreePath
  pub distinct : AreDistinctPaths paths
  pub other : All (HasOtherDirectory world old new) paths
  pub more : most < one_if_some old + one_if_some new + sum_by (trees_at world old new) paths

-- the id is that of the directory at a path, in one of two trees
abbrev pub IsIdAt : World → Option (List ℕ) → Option (List ℕ) → TreePath → List ℕ → Type 0
IsIdAt world old new path id =
    (item_id (directory_at world old path) ≡ Some id) ⊎ (item_id (directory_at world new path) ≡ Some id)

-- the tree with this id has to be read: it is one of both, or a directory at a path where other directories stand
abbrev pub IsNeeded : World → Option (List ℕ) → Option (List ℕ) → List ℕ → Type 0
IsNeeded world old new id =
    (old ≡ Some id) ⊎ (new ≡ Some id)
    ⊎ ((path : TreePath) × HasOtherDirectory world old new path × IsIdAt world old new path id)

-- why the paths are not told
abbrev pub IsChangeRefusal : {E : Type 0} → (List ℕ → E → Type 0) → ℕ → ℕ → ℕ → World → Option (List ℕ) → Option (List ℕ)
    → Refusal E → Type 0
IsChangeRefusal refused paths names trees world old new TooMany = AreMore world old new paths
IsChangeRefusal refused paths names trees world old new TooDeep = IsDeeper world old new names
IsChangeRefusal refused paths names trees world old new TooMuch = IsMuch world old new trees
IsChangeRefusal refused paths names trees world old new (Source error) =
    (id : List ℕ) × IsNeeded world old new id × refused id error
IsChangeRefusal refused paths names trees world old new OutOfMemory = ⊤
