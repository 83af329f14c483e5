-- Trees in a stream of objects (git-cat-file, "BATCH OUTPUT").
use Rattle.std.specs.Prelude.{◌≡◌, ◌++◌, ℕ, List, Some}
use Rattle.gix_hash_core.specs.declared.kind.Kind.{Kind}
use Rattle.object_stream.specs.BatchEntry.{object_entry}
use Rattle.object_stream.specs.declared.object_type.ObjectType.TheVariants.{Tree}
use Rattle.tree_objects.specs.Tree.{TreeEntry, IsTree, tree_id_of}
use Rattle.tree_changes.specs.Stands.{World}

-- The entry of the tree with these contents, whose id is theirs, stands in a stream.
pub record StandsInStream (kind : Kind) (stream contents : List ℕ) : Type 0 where
  pub before : List ℕ
  pub after : List ℕ
  pub whole : stream ≡ before ++ (object_entry Tree (tree_id_of kind contents) contents ++ after)

-- a world has each tree that stands in a stream, by its id
abbrev pub HasTreesOf : Kind → List ℕ → World → Type 0
HasTreesOf kind stream world =
    (contents : List ℕ) (entries : List TreeEntry) → StandsInStream kind stream contents → IsTree kind contents entries
    → world (tree_id_of kind contents) ≡ Some entries
