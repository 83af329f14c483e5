-- What is taken from a stream of trees, and where that stands then.
use Rattle.std.specs.Prelude.{◌≡◌, ℕ, List, Option, IfSome}
use Rattle.std.specs.List.{flat_map}
use Rattle.std.specs.Io.KnownBytes.{Appends, Consumes, prepend_known}
use Rattle.gix_hash_core.specs.declared.kind.Kind.{Kind}
use Rattle.object_stream.specs.declared.object_type.ObjectType.TheVariants.{Tree}
use Rattle.object_requests.specs.Asked.{Asked, request_line}
use Rattle.tree_objects.specs.Tree.{TreeEntry, IsTree, tree_id_of}
use Rattle.tree_requests.specs.TreeStream.{StandsInStream}

-- The object with this id has these contents, and its entry stands in the stream, where that is known.
pub record IsTaken (kind : Kind) (stream : Option (List ℕ)) (id contents : List ℕ) : Type 0 where
  pub own : id ≡ tree_id_of kind contents
  pub there : IfSome stream (λ bytes. StandsInStream kind bytes contents)

-- It is a tree, too.
pub record IsKeptTree (kind : Kind) (stream : Option (List ℕ)) (id contents : List ℕ) : Type 0 where
  pub taken : IsTaken kind stream id contents
  pub entries : List TreeEntry
  pub tree : IsTree kind contents entries

-- Trees are asked for, and what was read ahead and what a reader has left is the rest of the stream.
pub record IsBehind (stream : Option (List ℕ)) (r : Asked) (remaining : Option (List ℕ)) : Type 0 where
  pub type_is : r.type ≡ Tree
  pub read : List ℕ
  pub left : Consumes stream (prepend_known r.ahead remaining) read

-- what was written are lines that ask for objects
abbrev pub AreRequestLines : Option (List ℕ) → Option (List ℕ) → Type 0
AreRequestLines before now = (ids : List (List ℕ)) × Appends before now (flat_map request_line ids)
