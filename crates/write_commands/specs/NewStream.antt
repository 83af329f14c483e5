-- Which commits a stream says that `git cat-file --batch` wrote of commits (git-cat-file, "BATCH OUTPUT"), and why it says none.
use Rattle.std.specs.Prelude.{◌≡◌, ◌&&◌, ◌<◌, ◌^◌, ℕ, List, [], ◌++◌, All, Option, None, ⊤}
use Rattle.std.specs.Prelude.{length, take, nat_le, unwrap_or, if◌then◌else◌}
use Rattle.std.specs.List.{AllZip, flat_map, list_all}
use Rattle.gix_hash_core.specs.declared.kind.Kind.{Kind}
use Rattle.gix_hash_core.specs.declared.kind.Kind.TheVariants.{Sha1, Sha256}
use Rattle.commit_objects.specs.CommitContents.{Said, Says}
use Rattle.commit_objects.specs.Object.{object_id_of}
use Rattle.commit_objects.specs.Time.{newer_time}
use Rattle.object_stream.specs.BatchEntry.{object_entry, is_lower_digit, BeginsWithEntry}
use Rattle.object_stream.specs.NextEntry.{IsEntryError}
use Rattle.object_stream.specs.declared.error.EntryError.{EntryError}
use Rattle.object_stream.specs.declared.object_type.ObjectType.TheVariants as object
use Rattle.graph_writer.specs.declared.commit.NewCommit.{NewCommit}
use Rattle.write_commands.specs.declared.error.CommitsError.{CommitsError}
use Rattle.write_commands.specs.declared.error.CommitsError.TheVariants.{Entry, Unreadable, Device, OutOfMemory}

-- the kind of the ids of a stream: the one that is asked for; else SHA-256 where it begins with 64 digits, and else SHA-1
abbrev pub kind_of_stream : Option Kind → List ℕ → Kind
kind_of_stream asked bytes =
    unwrap_or asked (if nat_le 64 (length bytes) && list_all is_lower_digit (take 64 bytes) then Sha256 else Sha1)

-- The commit with these contents is this one: its id is the digest of its object, and the rest is what they say.
pub record IsReadCommit (kind : Kind) (contents : List ℕ) (commit : NewCommit) : Type 0 where
  pub id : commit.id ≡ object_id_of kind contents
  pub said : Said
  pub says : Says kind contents said
  pub tree : commit.tree ≡ said.tree
  pub parents : commit.parents.items ≡ said.parents
  pub time : commit.time ≡ newer_time said.rest

-- the entry of the commit with these contents
abbrev pub entry_of_commit : Kind → List ℕ → List ℕ
entry_of_commit kind contents = object_entry object.Commit (object_id_of kind contents) contents

-- The bytes begin with the entries of these commits, in their order, and this is next.
pub record BeginsWithCommits (kind : Kind) (bytes : List ℕ) (commits : List NewCommit) (next : List ℕ) : Type 0 where
  pub contents : List (List ℕ)
  pub whole : bytes ≡ flat_map (entry_of_commit kind) contents ++ next
  pub say : AllZip (IsReadCommit kind) contents commits
  pub fit : All (λ c. length c < 2 ^ 64) contents

-- the bytes are the entries of these commits and nothing else
abbrev pub SaysCommits : Option Kind → List ℕ → List NewCommit → Type 0
SaysCommits asked bytes commits = BeginsWithCommits (kind_of_stream asked bytes) bytes commits []

-- the bytes begin with the entry of a commit whose contents say nothing
abbrev pub BeginsWithUnreadable : Kind → List ℕ → Type 0
BeginsWithUnreadable kind bytes =
    (contents next : List ℕ) × BeginsWithEntry object.Commit (object_id_of kind contents) bytes contents next
    × ((said : Said) → ¬ Says kind contents said)

-- why the bytes, of which there are some, do not begin with the entry of a commit: the first reason
abbrev pub IsNewEntryError : Kind → List ℕ → EntryError → Type 0
IsNewEntryError kind bytes fault = (0 < length bytes) × IsEntryError kind object.Commit None bytes fault

-- the bytes begin with so many entries of commits, and what is next is so
abbrev pub GoesOn : Option Kind → List ℕ → ℕ → (Kind → List ℕ → Type 0) → Type 0
GoesOn asked bytes number Next =
    (commits : List NewCommit) × (next : List ℕ) × BeginsWithCommits (kind_of_stream asked bytes) bytes commits next
    × (length commits ≡ number) × Next (kind_of_stream asked bytes) next

-- why the bytes are not the entries of commits: those before an entry are, and it is refused. Any read may fail, and memory may
-- run out for any commit
abbrev pub MayRefuseCommits : Option Kind → List ℕ → CommitsError → Type 0
MayRefuseCommits asked bytes (Entry number fault) = GoesOn asked bytes number (λ kind next. IsNewEntryError kind next fault)
MayRefuseCommits asked bytes (Unreadable number) = GoesOn asked bytes number BeginsWithUnreadable
MayRefuseCommits asked bytes Device = ⊤
MayRefuseCommits asked bytes OutOfMemory = ⊤
