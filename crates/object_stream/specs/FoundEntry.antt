-- How an entry is found in the bytes that a buffer and its reader have together. For private contracts alone.
use Rattle.std.specs.Prelude.{◌≡◌, ◌≢◌, ◌+◌, ◌*◌, ℕ, List, Option, Some, None, length, take}
use Rattle.gix_hash_core.specs.Kind.{id_len}
use Rattle.gix_hash_core.specs.declared.kind.Kind.{Kind}
use Rattle.object_stream.specs.BatchEntry.{IsNoObjectLine, IsObjectLine}
use Rattle.object_stream.specs.NextEntry.{BeginsWithObject, IsExpected}
use Rattle.object_stream.specs.declared.error.EntryError.{EntryError}
use Rattle.object_stream.specs.declared.error.EntryError.TheVariants.{NoEntry, OtherId, Missing, OtherType}
use Rattle.object_stream.specs.declared.heading.Heading.{Heading}
use Rattle.object_stream.specs.declared.heading.Heading.TheVariants as heading
use Rattle.object_stream.specs.declared.object_type.ObjectType.{ObjectType}

-- two lists of bytes, if the first is known, are both known and stand in this relation
abbrev pub BothKnown : (List ℕ → List ℕ → Type 0) → Option (List ℕ) → Option (List ℕ) → Type 0
BothKnown Relation None now = Unit {0}
BothKnown Relation (Some bytes) None = ⊥
BothKnown Relation (Some bytes) (Some next) = Relation bytes next

-- the bytes begin with a line of so many bytes, which tells of an object of this type and size
abbrev pub FindsObject : Kind → ObjectType → List ℕ → ℕ → ℕ → Type 0
FindsObject kind type bytes line size =
    (next : List ℕ) × BeginsWithObject kind bytes (take (2 * id_len kind) bytes) (heading.Object type size) next
    × (length bytes ≡ line + 1 + length next)

-- why a line is not that of an object of this type that is expected
abbrev pub IsOtherLine : Kind → ObjectType → Option (List ℕ) → List ℕ → EntryError → Type 0
IsOtherLine kind type expected line NoEntry = IsNoObjectLine (id_len kind) line
IsOtherLine kind type expected line OtherId =
    (digits : List ℕ) × (told : Heading) × IsObjectLine (id_len kind) line digits told × ¬ IsExpected expected digits
IsOtherLine kind type expected line Missing =
    (digits : List ℕ) × IsObjectLine (id_len kind) line digits heading.Missing × IsExpected expected digits
IsOtherLine kind type expected line OtherType =
    (digits : List ℕ) × (other : ObjectType) × (size : ℕ) × IsObjectLine (id_len kind) line digits (heading.Object other size)
    × IsExpected expected digits × (other ≢ type)
IsOtherLine kind type expected line error = ⊥
