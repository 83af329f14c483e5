-- what a caller knows of paths
use Rattle.std.specs.Prelude.{◌==◌, ℕ, List, [], ◌∷◌, Option, Some, None, Bool, not, ◌||◌, bytes_eq, find, if◌then◌else◌}
use Rattle.std.specs.FinMap.{empty, insert, remove}
use Rattle.graph_folder.specs.Tree.{Tree, TreeEntry, RegularFile}
use Rattle.graph_layer.specs.declared.opening.error.OpenError.{OpenError}
use Rattle.graph_layer.specs.declared.opening.error.OpenError.TheVariants as opening
use Rattle.c_opening.specs.declared.known.CgKnown.{CgKnown}
use Rattle.c_opening.specs.declared.known.TheConstants.{FOLDER, NO_MEMORY, NOTHING, READ, UNREAD}

-- what is known of a path: of two that are known of it, the first
abbrev pub known_at : List CgKnown → List ℕ → Option CgKnown
known_at known path = find (λ k. bytes_eq k.path.now path) known

-- whether this is known of a file, which was read or was not
abbrev pub is_known_file : CgKnown → Bool
is_known_file k = not ((k.kind == NOTHING) || (k.kind == FOLDER))

-- why a file of this kind was not read: a read of it failed, there was no memory for its bytes, or it was not opened
abbrev pub unread : ℕ → OpenError
unread kind =
    if kind == UNREAD then opening.Device else (if kind == NO_MEMORY then opening.OutOfMemory else opening.NotOpened)

-- the file at a path of which this is known, if it was read
abbrev pub known_entry : CgKnown → Option TreeEntry
known_entry k = if k.kind == READ then Some (RegularFile k.bytes.now) else None

-- a tree with this at a path
abbrev pub with_entry : List ℕ → Option TreeEntry → Tree → Tree
with_entry path (Some entry) tree = insert tree path entry
with_entry path None tree = remove tree path

-- the files that were read
abbrev pub known_tree : List CgKnown → Tree
known_tree [] = empty
known_tree (k ∷ known) = with_entry k.path.now (known_entry k) (known_tree known)
