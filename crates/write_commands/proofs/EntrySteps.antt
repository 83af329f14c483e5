-- Why the entry of a commit is taken from the bytes that a buffer and its reader have together, and why it is not.
use Rattle.std.proofs.Common.{◌≡◌, ℕ, ◌+◌, ◌<◌, ◌≤◌, Bool, true, false, List, [], ◌++◌, length}
use Rattle.std.proofs.Common.{refl, sym, ap, ◌∙◌, arith, append-nil, ⊎_elim, Option, Some, None, IsTrue}
use Rattle.std.specs.Prelude.{◌↔◌, IfSome, nat_le}
use Rattle.std.specs.Io.KnownBytes.{Keeps, IsAtEnd, prepend_known}
use Rattle.std.proofs.lemmas.Bool.{cases_lt, le-leb}
use Rattle.std.proofs.lemmas.List.{length-append, take-append-le}
use Rattle.gix_hash_core.specs.declared.kind.Kind.{Kind}
use Rattle.commit_objects.specs.Object.{object_id_of}
use Rattle.object_stream.specs.BatchEntry.{BeginsWithEntry}
use Rattle.object_stream.specs.NextEntry.{MayStop}
use Rattle.object_stream.specs.FoundEntry.{BothKnown}
use Rattle.object_stream.specs.declared.error.ReadFailure.{ReadFailure}
use Rattle.object_stream.specs.declared.error.ReadFailure.TheVariants as failure
use Rattle.object_stream.specs.declared.error.StreamError.{StreamError}
use Rattle.object_stream.specs.declared.error.StreamError.TheVariants as stream
use Rattle.object_stream.proofs.EntryLemmas.{both_weaker}
use Rattle.object_stream.proofs.TakingLemmas.{at_end, of_known}
use Rattle.object_stream.specs.declared.object_type.ObjectType.TheVariants as object
use Rattle.graph_writer.specs.declared.commit.NewCommit.{NewCommit}
use Rattle.write_commands.specs.NewEntries.{IsNoCommit, IsReadFailure, MayStopAt, TakesCommit, commits_error_at, commits_error_of}
use Rattle.write_commands.specs.NewStream.{IsReadCommit, kind_of_stream}
use Rattle.write_commands.specs.declared.error.CommitsError.{CommitsError}
use Rattle.write_commands.specs.declared.error.CommitsError.TheVariants.{Entry, Unreadable, Device, OutOfMemory}

-- the kind of the ids, by 64 bytes at the front
kind_kept : (view more : List ℕ) → 64 ≤ length view → kind_of_stream None (view ++ more) ≡ kind_of_stream None view
kind_kept view more long =
    let all : nat_le 64 (length (view ++ more)) ≡ true =
    le-leb 64 (length (view ++ more)) (omega (arith, length-append view more, long)) in
    let some : nat_le 64 (length view) ≡ true = le-leb 64 (length view) long in
    rw (all, some, take-append-le 64 view more long) refl

-- no test of more than there is succeeds
not_enough : (enough : Bool) (n m : ℕ) → (IsTrue enough ↔ (n < m)) → m ≤ n → enough ≡ false
not_enough true n m tells few = absurd (omega (arith, tells.0 refl, few))
not_enough false n m tells few = refl

pub kind_read : (before known : Option (List ℕ)) (view : List ℕ) (enough : Bool) → Keeps before (prepend_known view known)
    → (IsTrue enough ↔ (0 + 63 < length view)) → (enough ≡ false → IsAtEnd known)
    → IfSome before (λ bytes. kind_of_stream None view ≡ kind_of_stream None bytes)
kind_read before known view enough kept tells ended =
    of_known (λ bytes. kind_of_stream None view ≡ kind_of_stream None bytes) before known view kept (λ more e.
    ⊎_elim
    (λ (few : length view < 64).
    let end : more ≡ [] = at_end known more (ended (not_enough enough 63 (length view) tells (omega (arith, few)))) e in
    let all : view ++ more ≡ view = ap (λ l. view ++ l) end ∙ append-nil view in
    rw all refl)
    (λ (many : 64 ≤ length view). sym (kind_kept view more many))
    (cases_lt (length view) 64))

-- a failed read is none of an entry
pub is_failure : (failure : ReadFailure) → IsReadFailure (commits_error_of failure)
is_failure failure.Device = tt
is_failure failure.OutOfMemory = tt

-- bytes that are there are among all that are left
pub some_there : (view : List ℕ) (known : Option (List ℕ)) → 0 < length view
    → IfSome (prepend_known view known) (λ bytes. 0 < length bytes)
some_there view None some = tt
some_there view (Some more) some = omega (arith, some, length-append view more)

-- the stream gives no entry
pub entry_stop : (kind : Kind) (number : ℕ) (before : Option (List ℕ)) (error : StreamError)
    → IfSome before (λ bytes. 0 < length bytes) → IfSome before (λ bytes. MayStop kind object.Commit None bytes error)
    → IfSome before (λ bytes. MayStopAt kind number bytes (commits_error_at number error))
entry_stop kind number None error some stop = tt
entry_stop kind number (Some bytes) (stream.Entry e) some stop = (refl, (some, stop))
entry_stop kind number (Some bytes) (stream.Read failure.Device) some stop = tt
entry_stop kind number (Some bytes) (stream.Read failure.OutOfMemory) some stop = tt

-- the contents say nothing
pub contents_stop : (kind : Kind) (number : ℕ) (contents : List ℕ) (before : Option (List ℕ)) (fault : CommitsError)
    → IfSome before (λ bytes. (next : List ℕ) × BeginsWithEntry object.Commit (object_id_of kind contents) bytes contents next)
    → IsNoCommit kind number contents fault → IfSome before (λ bytes. MayStopAt kind number bytes fault)
contents_stop kind number contents None fault read refused = tt
contents_stop kind number contents (Some bytes) (Entry other e) read refused = absurd refused
contents_stop kind number contents (Some bytes) (Unreadable other) read refused =
    (refused.0, (contents, read.0, read.1, refused.1))
contents_stop kind number contents (Some bytes) Device read refused = absurd refused
contents_stop kind number contents (Some bytes) OutOfMemory read refused = tt

-- the entry is taken
pub commit_taken : (kind : Kind) (commit : NewCommit) (contents : List ℕ) (before now : Option (List ℕ))
    → BothKnown (λ bytes next. BeginsWithEntry object.Commit (object_id_of kind contents) bytes contents next) before now
    → IsReadCommit kind contents commit → TakesCommit kind commit before now
commit_taken kind commit contents before now passed says =
    both_weaker (λ bytes next. BeginsWithEntry object.Commit (object_id_of kind contents) bytes contents next)
    (λ bytes next. (all : List ℕ) × BeginsWithEntry object.Commit (object_id_of kind all) bytes all next
    × IsReadCommit kind all commit)
    before now
    (λ bytes next entry. (contents, entry, says)) passed
