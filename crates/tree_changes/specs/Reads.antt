-- What the way through two trees comes to, step by step.
use Rattle.std.specs.Prelude.{◌≡◌, ◌<◌, ◌+◌, ◌⊎◌, ⊤, ℕ, Bool, true, false, List, [], ◌∷◌, ◌++◌, Option, Some}
use Rattle.gix_hash_core.specs.declared.kind.Kind.{Kind}
use Rattle.tree_objects.specs.Tree.{TreeEntry, IsTree}
use Rattle.tree_changes.specs.Stands.{World, entries_of}
use Rattle.tree_changes.specs.Changes.{one_if_some, IsDeeper, IsMuch, IsNeeded}
use Rattle.tree_changes.specs.Walk.{Change, IsFoundSoFar, leaf_texts}
use Rattle.tree_changes.specs.declared.trees.Level.{Level}
use Rattle.tree_changes.specs.declared.changes.Refusal.{Refusal}
use Rattle.tree_changes.specs.declared.changes.Refusal.TheVariants.{TooMany, TooDeep, TooMuch, Source, OutOfMemory}

-- the bytes are those of the tree with this id, which may be none, in each world that agrees
abbrev pub IsReadTree : Kind → (World → Type 0) → Option (List ℕ) → List ℕ → Type 0
IsReadTree kind says id bytes =
    (entries : List TreeEntry) × IsTree kind bytes entries × ((world : World) → says world → entries_of world id ≡ entries)

-- why it was not read: no tree may be read any more, or the source has none
abbrev pub IsTreeReadRefusal : {E : Type 0} → (List ℕ → E → Type 0) → Option (List ℕ) → ℕ → Refusal E → Type 0
IsTreeReadRefusal refused id trees TooMany = ⊥
IsTreeReadRefusal refused id trees TooDeep = ⊥
IsTreeReadRefusal refused id trees TooMuch = trees < one_if_some id
IsTreeReadRefusal refused id trees (Source error) = (i : List ℕ) × (id ≡ Some i) × refused i error
IsTreeReadRefusal refused id trees OutOfMemory = ⊤

-- A level has two trees whole.
pub record IsReadLevel (kind : Kind) (says : World → Type 0) (old new : Option (List ℕ)) (prefix : ℕ) (level : Level) : Type 0
  where
    pub old_tree : IsReadTree kind says old level.old.items
    pub new_tree : IsReadTree kind says new level.new.items
    pub old_at : level.old_at ≡ 0
    pub new_at : level.new_at ≡ 0
    pub prefix_is : level.prefix ≡ prefix

-- why two trees were not read
abbrev pub IsReadRefusal : {E : Type 0} → (List ℕ → E → Type 0) → Option (List ℕ) → Option (List ℕ) → ℕ → Refusal E → Type 0
IsReadRefusal refused old new trees TooMany = ⊥
IsReadRefusal refused old new trees TooDeep = ⊥
IsReadRefusal refused old new trees TooMuch = trees < one_if_some old + one_if_some new
IsReadRefusal refused old new trees (Source error) =
    (i : List ℕ) × ((old ≡ Some i) ⊎ (new ≡ Some i)) × refused i error
IsReadRefusal refused old new trees OutOfMemory = ⊤

-- What was found after one step: one path more, or all.
pub record IsFoundThen (kind : Kind) (says : World → Type 0) (old new : Option (List ℕ)) (budget : ℕ) (found : List Change)
    (more : Bool) (path : List ℕ) (levels : List Level) (trees : ℕ) : Type 0 where
  pub found_then : List Change
  pub so_far : IsFoundSoFar kind says old new budget found_then path levels trees
  pub texts_more : more ≡ true → leaf_texts found_then ≡ leaf_texts found ++ path ∷ []
  pub texts_all : more ≡ false → (leaf_texts found_then ≡ leaf_texts found) × (levels ≡ [])

-- why the way stopped
abbrev pub IsStopped : {E : Type 0} → (List ℕ → E → Type 0) → ℕ → ℕ → World → Option (List ℕ) → Option (List ℕ) → Refusal E
    → Type 0
IsStopped refused names trees world old new TooMany = ⊥
IsStopped refused names trees world old new TooDeep = IsDeeper world old new names
IsStopped refused names trees world old new TooMuch = IsMuch world old new trees
IsStopped refused names trees world old new (Source error) =
    (id : List ℕ) × IsNeeded world old new id × refused id error
IsStopped refused names trees world old new OutOfMemory = ⊤
