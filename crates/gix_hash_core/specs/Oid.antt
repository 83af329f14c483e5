-- Borrowed ids as lists of bytes.
use Rattle.std.specs.Int.{from_be_bytes, w64}
use Rattle.std.specs.Prelude.{ℕ, List, take}
use Rattle.gix_hash_core.specs.declared.borrowed.oid.{oid}

-- the bytes of a borrowed id
abbrev pub oid_bytes : oid → List ℕ
oid_bytes id = id.bytes.now

-- the number that the first eight bytes of an id make, by which most ids are told apart
abbrev pub front_of : List ℕ → ℕ
front_of id = from_be_bytes w64 (take 8 id)
