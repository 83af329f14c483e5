-- What stands at a path (Git's book, "Git Objects", "Tree Objects"), over a world of trees.
use Rattle.std.specs.Prelude.{◌≢◌, ℕ, Bool, true, false, not, ◌&&◌, cond, List, [], ◌∷◌, ◌++◌, Option, Some, None, nat_eq}
use Rattle.std.specs.Prelude.{option_map}
use Rattle.std.specs.List.{flat_map}
use Rattle.std.specs.Cmp.Lexicographic.{pointwise}
use Rattle.tree_objects.specs.declared.mode.EntryKind.{EntryKind}
use Rattle.tree_objects.specs.declared.mode.EntryKind.TheVariants.{Directory, File, Executable, Link, Submodule}
use Rattle.tree_objects.specs.Tree.{TreeEntry}

-- which trees there are: the entries of that with an id
abbrev pub World : Type 0
World = List ℕ → Option (List TreeEntry)

-- What an entry names. Two are alike where kind and id are.
pub record Item : Type 0 where
  pub kind : EntryKind
  pub id : List ℕ

-- A path: the names of the directories that lead to it, from the top, and the last name.
pub record TreePath : Type 0 where
  pub directories : List (List ℕ)
  pub name : List ℕ

-- names of directories, each with a `/` behind it
abbrev pub slashed : List (List ℕ) → List ℕ
slashed directories = flat_map (λ name. name ++ 47 ∷ []) directories

-- the names of a path, joined by `/`
abbrev pub joined : TreePath → List ℕ
joined path = slashed path.directories ++ path.name

abbrev pub is_directory : EntryKind → Bool
is_directory Directory = true
is_directory File = false
is_directory Executable = false
is_directory Link = false
is_directory Submodule = false

-- whether the entry has this name, and is a directory, if one is asked for, or else is none
abbrev pub is_named : Bool → List ℕ → TreeEntry → Bool
is_named directory name entry =
    cond directory (is_directory entry.kind) (not (is_directory entry.kind)) && pointwise nat_eq entry.name name

abbrev pub item_of : TreeEntry → Item
item_of entry = record { kind = entry.kind; id = entry.id }

-- what the entry of a name names, among entries: a directory, if one is asked for, or else what is none
abbrev pub item_named : Bool → List ℕ → List TreeEntry → Option Item
item_named directory name [] = None
item_named directory name (entry ∷ entries) =
    cond (is_named directory name entry) (Some (item_of entry)) (item_named directory name entries)

-- the entries of a tree that may be none
abbrev pub entries_or_none : Option (List TreeEntry) → List TreeEntry
entries_or_none None = []
entries_or_none (Some entries) = entries

-- the entries of the tree with an id; where there is no tree, there are none
abbrev pub entries_of : World → Option (List ℕ) → List TreeEntry
entries_of world None = []
entries_of world (Some id) = entries_or_none (world id)

-- the id of what an item may be
abbrev pub item_id : Option Item → Option (List ℕ)
item_id item = option_map (λ i. i.id) item

-- what stands at a path below entries: a directory, if one is asked for, or else what is none
abbrev pub item_at : World → Bool → List TreeEntry → List (List ℕ) → List ℕ → Option Item
item_at world directory entries [] name = item_named directory name entries
item_at world directory entries (first ∷ directories) name =
    item_at world directory (entries_of world (item_id (item_named true first entries))) directories name

-- the leaf that stands at a path in a tree, which is no directory
abbrev pub stands : World → Option (List ℕ) → TreePath → Option Item
stands world tree path = item_at world false (entries_of world tree) path.directories path.name

-- the directory that stands at a path in a tree
abbrev pub directory_at : World → Option (List ℕ) → TreePath → Option Item
directory_at world tree path = item_at world true (entries_of world tree) path.directories path.name

-- from one tree to another the path is changed: its leaves are not alike, or one alone is there
abbrev pub IsChanged : World → Option (List ℕ) → Option (List ℕ) → TreePath → Type 0
IsChanged world old new path = stands world old path ≢ stands world new path

-- other directories stand at the path in one tree and in another, or one alone
abbrev pub HasOtherDirectory : World → Option (List ℕ) → Option (List ℕ) → TreePath → Type 0
HasOtherDirectory world old new path = directory_at world old path ≢ directory_at world new path
