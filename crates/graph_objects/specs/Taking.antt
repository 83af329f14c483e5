-- How entries are taken from the bytes that a buffer and its reader have together, where those are known.
use Rattle.std.specs.Prelude.{◌≡◌, ℕ, List, Option, ⊤}
use Rattle.graph_format.specs.Layer.{Layer}
use Rattle.graph_format.specs.declared.Position.{Position}
use Rattle.object_stream.specs.BatchEntry.{BeginsWithEntry}
use Rattle.object_stream.specs.FoundEntry.{BothKnown}
use Rattle.object_stream.specs.declared.error.ReadFailure.{ReadFailure}
use Rattle.object_stream.specs.declared.error.ReadFailure.TheVariants as failure
use Rattle.object_stream.specs.declared.error.StreamError.{StreamError}
use Rattle.object_stream.specs.declared.error.StreamError.TheVariants as stream
use Rattle.object_stream.specs.declared.object_type.ObjectType.TheVariants as object
use Rattle.graph_objects.specs.Matching.{MatchesAt}
use Rattle.graph_objects.specs.Stream.{graph_id_at, IsEntryErrorAt, IsLong, IsMismatchIn}
use Rattle.graph_objects.specs.declared.error.ObjectsError.{ObjectsError}
use Rattle.graph_objects.specs.declared.error.ObjectsError.TheVariants.{Entry, Mismatch, LeftOver, Device, OutOfMemory}

-- the entry of a position was taken, and matches
abbrev pub TakesEntry : List Layer → ℕ → Option (List ℕ) → Option (List ℕ) → Type 0
TakesEntry layers p before now =
    BothKnown
    (λ bytes next. (contents : List ℕ) × BeginsWithEntry object.Commit (graph_id_at layers p) bytes contents next
    × MatchesAt layers p contents)
    before now

-- why no entry of a position is taken from the bytes
abbrev pub MayRefuseEntry : List Layer → Position → List ℕ → ObjectsError → Type 0
MayRefuseEntry layers pos bytes (Entry other error) = (other ≡ pos) × IsEntryErrorAt layers pos.0 bytes error
MayRefuseEntry layers pos bytes (Mismatch other mismatch) = (other ≡ pos) × IsMismatchIn layers pos.0 bytes mismatch
MayRefuseEntry layers pos bytes LeftOver = ⊥
MayRefuseEntry layers pos bytes Device = ⊤
MayRefuseEntry layers pos bytes OutOfMemory = IsLong layers pos.0 bytes

-- that bytes could not be read
abbrev pub error_of_failure : ReadFailure → ObjectsError
error_of_failure failure.Device = Device
error_of_failure failure.OutOfMemory = OutOfMemory

-- why a stream gives no entry for a position
abbrev pub stream_error_at : Position → StreamError → ObjectsError
stream_error_at pos (stream.Entry error) = Entry pos error
stream_error_at pos (stream.Read failure) = error_of_failure failure
