-- The worlds that have the trees of a source in memory.
use Rattle.std.specs.Prelude.{◌≡◌, List, Contains, Some}
use Rattle.gix_hash_core.specs.declared.kind.Kind.{Kind}
use Rattle.tree_objects.specs.Tree.{TreeEntry, IsTree}
use Rattle.tree_changes.specs.Stands.{World}
use Rattle.test_trees.specs.declared.known.KnownTree.{KnownTree}

-- the world has each of these trees, of those that are trees
abbrev pub HasTrees : Kind → List KnownTree → World → Type 0
HasTrees kind trees world =
    (tree : KnownTree) (entries : List TreeEntry) → Contains trees tree → IsTree kind tree.contents.items entries
    → world tree.id.items ≡ Some entries
