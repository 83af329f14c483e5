-- How entries of commits are taken from the bytes that a buffer and its reader have together, where those are known. For private
-- contracts alone.
use Rattle.std.specs.Prelude.{◌≡◌, ℕ, List, Option, ⊤}
use Rattle.gix_hash_core.specs.declared.kind.Kind.{Kind}
use Rattle.object_stream.specs.BatchEntry.{BeginsWithEntry}
use Rattle.object_stream.specs.FoundEntry.{BothKnown}
use Rattle.object_stream.specs.declared.error.ReadFailure.{ReadFailure}
use Rattle.object_stream.specs.declared.error.ReadFailure.TheVariants as failure
use Rattle.object_stream.specs.declared.error.StreamError.{StreamError}
use Rattle.object_stream.specs.declared.error.StreamError.TheVariants as stream
use Rattle.object_stream.specs.declared.object_type.ObjectType.TheVariants as object
use Rattle.commit_objects.specs.CommitContents.{Said, Says}
use Rattle.commit_objects.specs.Object.{object_id_of}
use Rattle.graph_writer.specs.declared.commit.NewCommit.{NewCommit}
use Rattle.write_commands.specs.NewStream.{BeginsWithCommits, BeginsWithUnreadable, IsNewEntryError, IsReadCommit}
use Rattle.write_commands.specs.declared.error.CommitsError.{CommitsError}
use Rattle.write_commands.specs.declared.error.CommitsError.TheVariants.{Entry, Unreadable, Device, OutOfMemory}

-- the entry of this commit was taken
abbrev pub TakesCommit : Kind → NewCommit → Option (List ℕ) → Option (List ℕ) → Type 0
TakesCommit kind commit before now =
    BothKnown
    (λ bytes next. (contents : List ℕ) × BeginsWithEntry object.Commit (object_id_of kind contents) bytes contents next
    × IsReadCommit kind contents commit)
    before now

-- the entries of these commits were taken
abbrev pub HasTaken : Kind → List NewCommit → Option (List ℕ) → Option (List ℕ) → Type 0
HasTaken kind commits before now = BothKnown (λ bytes next. BeginsWithCommits kind bytes commits next) before now

-- why no entry of this number is taken from the bytes
abbrev pub MayStopAt : Kind → ℕ → List ℕ → CommitsError → Type 0
MayStopAt kind number bytes (Entry other fault) = (other ≡ number) × IsNewEntryError kind bytes fault
MayStopAt kind number bytes (Unreadable other) = (other ≡ number) × BeginsWithUnreadable kind bytes
MayStopAt kind number bytes Device = ⊤
MayStopAt kind number bytes OutOfMemory = ⊤

-- the bytes could not be read
abbrev pub IsReadFailure : CommitsError → Type 0
IsReadFailure (Entry number fault) = ⊥
IsReadFailure (Unreadable number) = ⊥
IsReadFailure Device = ⊤
IsReadFailure OutOfMemory = ⊤

-- that bytes could not be read
abbrev pub commits_error_of : ReadFailure → CommitsError
commits_error_of failure.Device = Device
commits_error_of failure.OutOfMemory = OutOfMemory

-- why a stream gives no entry of this number
abbrev pub commits_error_at : ℕ → StreamError → CommitsError
commits_error_at number (stream.Entry error) = Entry number error
commits_error_at number (stream.Read failure) = commits_error_of failure

-- why there is no commit with these contents
abbrev pub IsNoCommit : Kind → ℕ → List ℕ → CommitsError → Type 0
IsNoCommit kind number contents (Entry other fault) = ⊥
IsNoCommit kind number contents (Unreadable other) = (other ≡ number) × ((said : Said) → ¬ Says kind contents said)
IsNoCommit kind number contents Device = ⊥
IsNoCommit kind number contents OutOfMemory = ⊤
