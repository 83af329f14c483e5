-- Whether a stream goes on with the entry of an object of a type, of a certain one or of any, and why it does not
-- (git-cat-file, "BATCH OUTPUT").
use Rattle.std.specs.Prelude.{◌≡◌, ◌≢◌, ◌⊎◌, ◌+◌, ◌<◌, ◌≤◌, ℕ, List, ◌∷◌, ◌++◌, Option, IfSome, length, slice_index, take, ⊤}
use Rattle.hex.specs.Hex.{encode_lower}
use Rattle.gix_hash_core.specs.Kind.{id_len}
use Rattle.gix_hash_core.specs.declared.kind.Kind.{Kind}
use Rattle.object_stream.specs.BatchEntry.{BeginsWithLongLine, EndsInLine, IsLine, IsNoObjectLine, IsObjectLine}
use Rattle.object_stream.specs.declared.error.EntryError.{EntryError}
use Rattle.object_stream.specs.declared.error.EntryError.TheVariants.{Ends, NoEntry, OtherId, Missing, OtherType, OtherContents}
use Rattle.object_stream.specs.declared.error.ReadFailure.TheVariants as failure
use Rattle.object_stream.specs.declared.error.StreamError.{StreamError}
use Rattle.object_stream.specs.declared.error.StreamError.TheVariants.{Entry, Read}
use Rattle.object_stream.specs.declared.heading.Heading.{Heading}
use Rattle.object_stream.specs.declared.heading.Heading.TheVariants as heading
use Rattle.object_stream.specs.declared.object_type.ObjectType.{ObjectType}
use Rattle.object_stream.specs.TypedObject.{typed_id}

-- the digits are those of the id that is expected, where one is
abbrev pub IsExpected : Option (List ℕ) → List ℕ → Type 0
IsExpected expected digits = IfSome expected (λ id. digits ≡ encode_lower id)

-- the bytes begin with the line of an object with an id of this kind, whichever that is
abbrev pub BeginsWithObject : Kind → List ℕ → List ℕ → Heading → List ℕ → Type 0
BeginsWithObject kind bytes digits told next =
    (line : List ℕ) × IsLine bytes line next × IsObjectLine (id_len kind) line digits told

-- the bytes begin with the line of an object that is expected, and this is next
abbrev pub BeginsWithHead : Kind → Option (List ℕ) → List ℕ → List ℕ → Heading → List ℕ → Type 0
BeginsWithHead kind expected bytes digits told next =
    BeginsWithObject kind bytes digits told next × IsExpected expected digits

-- the bytes end within the entry: in its line, or in the contents of its object
abbrev pub EndsWithinEntry : Kind → ObjectType → Option (List ℕ) → List ℕ → Type 0
EndsWithinEntry kind type expected bytes =
    EndsInLine bytes
    ⊎ ((digits next : List ℕ) × (size : ℕ) × BeginsWithHead kind expected bytes digits (heading.Object type size) next
    × (length next ≤ size))

-- the bytes begin with no entry: with a long line; with the line of no object; or with the line of an object that is expected,
-- and
-- contents without a line feed behind them
abbrev pub BeginsWithNoEntry : Kind → ObjectType → Option (List ℕ) → List ℕ → Type 0
BeginsWithNoEntry kind type expected bytes =
    BeginsWithLongLine bytes
    ⊎ (((line next : List ℕ) × IsLine bytes line next × IsNoObjectLine (id_len kind) line)
    ⊎ ((digits next : List ℕ) × (size : ℕ) × BeginsWithHead kind expected bytes digits (heading.Object type size) next
    × (size < length next) × (slice_index next size ≢ 10)))

-- the bytes begin with the line of an object that is not the expected one
abbrev pub BeginsWithOtherId : Kind → Option (List ℕ) → List ℕ → Type 0
BeginsWithOtherId kind expected bytes =
    (digits next : List ℕ) × (told : Heading) × BeginsWithObject kind bytes digits told next × ¬ IsExpected expected digits

-- the bytes begin with the line of an object that is expected, and is of another type
abbrev pub BeginsWithOtherType : Kind → ObjectType → Option (List ℕ) → List ℕ → Type 0
BeginsWithOtherType kind type expected bytes =
    (digits next : List ℕ) × (other : ObjectType) × (size : ℕ)
    × BeginsWithHead kind expected bytes digits (heading.Object other size) next × (other ≢ type)

-- the bytes begin with the entry of an object whose id is not that of its contents
abbrev pub BeginsWithOtherContents : Kind → ObjectType → Option (List ℕ) → List ℕ → Type 0
BeginsWithOtherContents kind type expected bytes =
    (digits contents next : List ℕ)
    × BeginsWithHead kind expected bytes digits (heading.Object type (length contents)) (contents ++ 10 ∷ next)
    × (digits ≢ encode_lower (typed_id kind type contents))

-- why the bytes do not begin with the entry of an object of this type that is expected: the first reason, in this order
abbrev pub IsEntryError : Kind → ObjectType → Option (List ℕ) → List ℕ → EntryError → Type 0
IsEntryError kind type expected bytes Ends = EndsWithinEntry kind type expected bytes
IsEntryError kind type expected bytes NoEntry = BeginsWithNoEntry kind type expected bytes
IsEntryError kind type expected bytes OtherId = BeginsWithOtherId kind expected bytes
IsEntryError kind type expected bytes Missing =
    (digits next : List ℕ) × BeginsWithHead kind expected bytes digits heading.Missing next
IsEntryError kind type expected bytes OtherType = BeginsWithOtherType kind type expected bytes
IsEntryError kind type expected bytes OtherContents = BeginsWithOtherContents kind type expected bytes

-- the bytes begin with the line of an object of this type that is expected, and its entry has more than 64 KiB
abbrev pub BeginsWithLongEntry : Kind → ObjectType → Option (List ℕ) → List ℕ → Type 0
BeginsWithLongEntry kind type expected bytes =
    (line digits next : List ℕ) × (size : ℕ) × IsLine bytes line next
    × IsObjectLine (id_len kind) line digits (heading.Object type size) × IsExpected expected digits
    × (65536 < length line + 1 + size + 1)

-- why no entry is read of a stream with these bytes. Any read may fail, and memory run out for a long entry
abbrev pub MayStop : Kind → ObjectType → Option (List ℕ) → List ℕ → StreamError → Type 0
MayStop kind type expected bytes (Entry error) = IsEntryError kind type expected bytes error
MayStop kind type expected bytes (Read failure.Device) = ⊤
MayStop kind type expected bytes (Read failure.OutOfMemory) = BeginsWithLongEntry kind type expected bytes

-- The bytes begin with the contents of an object of this size and a line feed, and the object has this id, the expected one
-- where one is.
pub record BeginsWithContents (kind : Kind) (type : ObjectType) (expected : Option (List ℕ)) (id : List ℕ) (size : ℕ)
    (bytes : List ℕ) : Type 0 where
  pub within : size < length bytes
  pub feed : slice_index bytes size ≡ 10
  pub own : id ≡ typed_id kind type (take size bytes)
  pub is_expected : IfSome expected (λ other. id ≡ other)
