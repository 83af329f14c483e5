-- The entry that answers a request, and why it is not taken (git-cat-file, "BATCH OUTPUT").
use Rattle.std.specs.Prelude.{◌≡◌, ◌+◌, ℕ, List, Some, slice_get, ⊤}
use Rattle.gix_hash_core.specs.declared.kind.Kind.{Kind}
use Rattle.object_stream.specs.NextEntry.{BeginsWithLongEntry, IsEntryError}
use Rattle.object_stream.specs.TypedObject.{typed_id}
use Rattle.object_stream.specs.declared.error.ReadFailure.{ReadFailure}
use Rattle.object_stream.specs.declared.error.ReadFailure.TheVariants as failure
use Rattle.object_stream.specs.declared.error.StreamError.{StreamError}
use Rattle.object_stream.specs.declared.error.StreamError.TheVariants as stream
use Rattle.object_stream.specs.declared.object_type.ObjectType.{ObjectType}
use Rattle.object_requests.specs.Asked.{Asked}
use Rattle.object_requests.specs.declared.error.RequestError.{RequestError}
use Rattle.object_requests.specs.declared.error.RequestError.TheVariants.{Entry, Device, OutOfMemory, WriteFailed}

-- The entry of the object that was waiting longest was taken: its contents have the id that was asked for.
pub record Takes (old new : Asked) (id : List ℕ) : Type 0 where
  pub oldest : slice_get old.asked old.taken ≡ Some id
  pub own : id ≡ typed_id old.kind old.type new.contents
  pub taken : new.taken ≡ old.taken + 1
  pub asked : new.asked ≡ old.asked
  pub kind : new.kind ≡ old.kind
  pub type : new.type ≡ old.type

-- why the entry of an object is not taken from these bytes: the first reason; any read or write may fail, and memory run out for
-- an entry of more than 64 KiB
abbrev pub MayRefuseFor : Kind → ObjectType → List ℕ → List ℕ → RequestError → Type 0
MayRefuseFor kind type id bytes (Entry other error) = (other ≡ id) × IsEntryError kind type (Some id) bytes error
MayRefuseFor kind type id bytes Device = ⊤
MayRefuseFor kind type id bytes OutOfMemory = BeginsWithLongEntry kind type (Some id) bytes
MayRefuseFor kind type id bytes WriteFailed = ⊤

-- why that of the object which was waiting longest is not taken
abbrev pub MayRefuseOldest : Asked → List ℕ → RequestError → Type 0
MayRefuseOldest r bytes error = (id : List ℕ) × (slice_get r.asked r.taken ≡ Some id) × MayRefuseFor r.kind r.type id bytes error

-- that bytes could not be read
abbrev pub request_error_of : ReadFailure → RequestError
request_error_of failure.Device = Device
request_error_of failure.OutOfMemory = OutOfMemory

-- why a stream gives no entry of an object
abbrev pub stream_error_for : List ℕ → StreamError → RequestError
stream_error_for id (stream.Entry error) = Entry id error
stream_error_for id (stream.Read failure) = request_error_of failure
