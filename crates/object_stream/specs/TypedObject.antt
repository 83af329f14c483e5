-- The types of objects, and the ids of objects (Git's book, "Git Objects"; git-hash-object).
use Rattle.std.specs.Prelude.{ℕ, List, ◌∷◌, ◌++◌, length, codes, decimal}
use Rattle.gix_hash_core.specs.declared.kind.Kind.{Kind}
use Rattle.gix_hash_core.specs.Digest.{digest_of}
use Rattle.object_stream.specs.declared.object_type.ObjectType.{ObjectType}
use Rattle.object_stream.specs.declared.object_type.ObjectType.TheVariants.{Commit, Tree, Blob, Tag}

-- Git's word for a type, and the space behind it
abbrev pub type_word : ObjectType → List ℕ
type_word Commit = codes "commit "
type_word Tree = codes "tree "
type_word Blob = codes "blob "
type_word Tag = codes "tag "

-- an object: its type, a space, the length of its contents in decimal, a byte 00, and the contents
abbrev pub typed_object : ObjectType → List ℕ → List ℕ
typed_object type contents = type_word type ++ decimal (length contents) ++ 0 ∷ contents

-- its id: the digest of the object, by the hash of the repository
abbrev pub typed_id : Kind → ObjectType → List ℕ → List ℕ
typed_id kind type contents = digest_of kind (typed_object type contents)
