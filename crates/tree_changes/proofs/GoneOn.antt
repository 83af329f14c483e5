-- on the way to the next path
use Rattle.std.proofs.Common.{◌≡◌, ℕ, List, Option}
use Rattle.gix_hash_core.specs.declared.kind.Kind.{Kind}
use Rattle.tree_changes.specs.Stands.{World}
use Rattle.tree_changes.specs.Walk.{Change, IsFoundSoFar, leaf_texts}
use Rattle.tree_changes.specs.declared.trees.Level.{Level}

-- Directories were found, and no leaf.
pub record IsGoneOn (kind : Kind) (says : World → Type 0) (old new : Option (List ℕ)) (budget : ℕ) (found : List Change)
    (path : List ℕ) (levels : List Level) (trees : ℕ) : Type 0 where
  pub found_then : List Change
  pub so_far : IsFoundSoFar kind says old new budget found_then path levels trees
  pub texts : leaf_texts found_then ≡ leaf_texts found
