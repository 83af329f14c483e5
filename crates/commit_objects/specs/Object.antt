-- The ids of commits (Git's book, "Git Objects", "Object Storage"; git-hash-object).
use Rattle.std.specs.Prelude.{ℕ, List, ◌∷◌, ◌++◌, length, codes, decimal}
use Rattle.gix_hash_core.specs.declared.kind.Kind.{Kind}
use Rattle.gix_hash_core.specs.Digest.{digest_of}

-- a commit as an object: its type, a space, the length of its contents in decimal, a byte 00, and the contents
abbrev pub object_of : List ℕ → List ℕ
object_of contents = codes "commit " ++ decimal (length contents) ++ 0 ∷ contents

-- the id of the commit with these contents: the digest of the object, by the hash of the repository
abbrev pub object_id_of : Kind → List ℕ → List ℕ
object_id_of kind contents = digest_of kind (object_of contents)
