-- Why no tree is given for an id.
use Rattle.std.specs.Prelude.{◌≡◌, ◌≢◌, ◌++◌, ⊤, ℕ, List, Option, Some, IfSome, length}
use Rattle.gix_hash_core.specs.declared.kind.Kind.{Kind}
use Rattle.object_stream.specs.NextEntry.{IsEntryError}
use Rattle.object_stream.specs.declared.error.EntryError.{EntryError}
use Rattle.object_stream.specs.declared.object_type.ObjectType.TheVariants.{Tree}
use Rattle.object_requests.specs.declared.error.RequestError.{RequestError}
use Rattle.object_requests.specs.declared.error.RequestError.TheVariants.{Entry, Device, OutOfMemory, WriteFailed}
use Rattle.tree_objects.specs.Refusal.{IsTreeRefusal}
use Rattle.tree_objects.specs.declared.check.TreeError.TheVariants.{Unreadable, Order}
use Rattle.tree_requests.specs.TakenTree.{IsTaken}
use Rattle.tree_requests.specs.declared.error.TreeRequestError.{TreeRequestError}
use Rattle.tree_requests.specs.declared.error.TreeRequestError.TheVariants.{Request, NoTree, NoId}

-- a stream does not go on with the entry of the tree with an id somewhere, for this first reason; reads and writes may fail, and
-- memory run out
abbrev pub IsStreamFault : Kind → Option (List ℕ) → RequestError → Type 0
IsStreamFault kind stream (Entry id error) =
    IfSome stream (λ bytes. (read rest : List ℕ) × (bytes ≡ read ++ rest) × IsEntryError kind Tree (Some id) rest error)
IsStreamFault kind stream Device = ⊤
IsStreamFault kind stream OutOfMemory = ⊤
IsStreamFault kind stream WriteFailed = ⊤

-- why no tree is given for an id
abbrev pub IsNotGiven : Kind → Option (List ℕ) → List ℕ → TreeRequestError → Type 0
IsNotGiven kind stream id (Request error) = IsStreamFault kind stream error
IsNotGiven kind stream id (NoTree named error) =
    (named ≡ id) × ((contents : List ℕ) × IsTaken kind stream id contents × IsTreeRefusal kind contents error)
IsNotGiven kind stream id NoId = (length id ≢ 20) × (length id ≢ 32)

-- what answers a request for an id is not the entry of a tree with it
abbrev pub other_entry : List ℕ → EntryError → TreeRequestError
other_entry id error = Request (Entry id error)

-- the contents of a tree have no entry where the one with this number has to stand, or that entry does not stand behind the one
-- before it
abbrev pub unreadable_tree : List ℕ → ℕ → TreeRequestError
unreadable_tree id number = NoTree id (Unreadable number)

abbrev pub unordered_tree : List ℕ → ℕ → TreeRequestError
unordered_tree id number = NoTree id (Order number)
