-- Commits that are asked for because they are lacking, and what answers (git-cat-file, "BATCH OUTPUT").
use Rattle.std.specs.Prelude.{◌≡◌, ◌⊎◌, ℕ, List, ◌++◌, All, Contains, Option, Some, None, length, map, slice_get, take}
use Rattle.std.specs.List.{flat_map}
use Rattle.gix_hash_core.specs.declared.kind.Kind.{Kind}
use Rattle.commit_objects.specs.Object.{object_id_of}
use Rattle.object_stream.specs.BatchEntry.{object_entry}
use Rattle.object_stream.specs.NextEntry.{IsEntryError}
use Rattle.object_stream.specs.declared.error.EntryError.{EntryError}
use Rattle.object_stream.specs.declared.object_type.ObjectType.TheVariants.{Commit}
use Rattle.object_requests.specs.Asked.{AreEachOnce, request_line}
use Rattle.graph_objects.specs.CommitWalks.{NamesParent}
use Rattle.newer_commits.specs.CommitsOnTop.{CommitsOnTop}
use Rattle.newer_commits.specs.FindingOnTop.{Finds}

-- the lines by which objects are asked for
abbrev pub request_lines : List (List ℕ) → List ℕ
request_lines ids = flat_map request_line ids

-- the entries of the commits with these contents
abbrev pub commit_entries : Kind → List (List ℕ) → List ℕ
commit_entries kind read = flat_map (λ bytes. object_entry Commit (object_id_of kind bytes) bytes) read

-- it is an id of the question, or one of the commits that were read names it as a parent
abbrev pub IsNeeded : Kind → List (List ℕ) → List (List ℕ) → List ℕ → Type 0
IsNeeded kind ids read id = Contains ids id ⊎ ((bytes : List ℕ) × Contains read bytes × NamesParent kind bytes id)

-- Of the commits that were asked for, in order, these are the contents that were read: those of the first. Each was asked for
-- once, because it was lacking and is needed for the question.
pub record AreAskedFor (kind : Kind) (base : List ℕ → Option ℕ → Type 0) (top : CommitsOnTop) (ids asked read : List (List ℕ))
    : Type 0 where
  pub own : map (object_id_of kind) read ≡ take (length read) asked
  pub distinct : AreEachOnce asked
  pub lacking : All (λ id. Finds base top id None) asked
  pub needed : All (IsNeeded kind ids read) asked

-- The bytes are the entries of the first commits that were asked for, and then it is not the entry of the next one, whose id this
-- is, for this reason.
pub record StopsAt (kind : Kind) (asked : List (List ℕ)) (id bytes : List ℕ) (error : EntryError) : Type 0 where
  pub read : List (List ℕ)
  pub rest : List ℕ
  pub whole : bytes ≡ commit_entries kind read ++ rest
  pub own : map (object_id_of kind) read ≡ take (length read) asked
  pub next : slice_get asked (length read) ≡ Some id
  pub reason : IsEntryError kind Commit (Some id) rest error
