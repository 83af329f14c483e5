-- How far the changed paths were told, one after another.
use Rattle.std.specs.Prelude.{◌≡◌, ℕ, Bool, true, false, List, [], ◌∷◌, ◌++◌, Option, Some, None}
use Rattle.gix_hash_core.specs.declared.kind.Kind.{Kind}
use Rattle.tree_changes.specs.Stands.{World}
use Rattle.tree_changes.specs.Changes.{AreChanged, AreFirstChanged}
use Rattle.tree_changes.specs.Walk.{Change, IsFoundSoFar, leaf_texts}
use Rattle.tree_changes.specs.declared.walk.Walk.{Walk}
use Rattle.tree_changes.specs.declared.in_turn.ChangesInTurn.{ChangesInTurn}

-- a walk has found these paths, from one tree to another; without one, both are one tree
abbrev pub HasFound : Kind → (World → Type 0) → Option (List ℕ) → Option (List ℕ) → ℕ → ℕ → List (List ℕ) → Option Walk → Type 0
HasFound kind says old new names trees texts None = (old ≡ new) × (texts ≡ [])
HasFound kind says old new names trees texts (Some walk) =
    (found : List Change) × IsFoundSoFar kind says old new trees found walk.path.items walk.levels.items walk.trees
    × (leaf_texts found ≡ texts) × (walk.names ≡ names)

-- these changed paths were told, from one tree to another, by limits of names and of trees
abbrev pub HasTold : Kind → (World → Type 0) → Option (List ℕ) → Option (List ℕ) → ℕ → ℕ → List (List ℕ) → ChangesInTurn → Type 0
HasTold kind says old new names trees texts changes = HasFound kind says old new names trees texts changes.walk

-- the path that a walk found last
abbrev pub last_found : Option Walk → List ℕ
last_found None = []
last_found (Some walk) = walk.path.items

-- the path that was told last
abbrev pub last_told : ChangesInTurn → List ℕ
last_told changes = last_found changes.walk

-- One more path is told, and all that were told are the first of those that are changed; or they are all.
abbrev pub GoesOn : Kind → (World → Type 0) → Option (List ℕ) → Option (List ℕ) → ℕ → ℕ → List (List ℕ) → Bool → ChangesInTurn
    → Type 0
GoesOn kind says old new names trees texts true changes =
    HasTold kind says old new names trees (texts ++ last_told changes ∷ []) changes
    × ((world : World) → says world → AreFirstChanged world old new (texts ++ last_told changes ∷ []))
GoesOn kind says old new names trees texts false changes =
    (world : World) → says world → AreChanged world old new texts
