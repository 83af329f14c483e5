-- A stream of the commits of a graph, and why bytes are none (git-cat-file, "BATCH OUTPUT").
use Rattle.std.specs.Prelude.{◌≡◌, ◌≢◌, ◌<◌, ◌^◌, ℕ, ◌+◌, List, [], ◌++◌, length}
use Rattle.std.specs.Prelude.{slice_index_or, slice_get, IsSomeAnd, Some}
use Rattle.std.specs.List.{AllByRecursion, flat_map, enumerate_from}
use Rattle.graph_format.specs.Layer.{Layer}
use Rattle.gix_commitgraph.specs.Graph.{graph_commits, graph_ids}
use Rattle.object_stream.specs.BatchEntry.{object_entry, BeginsWithEntry}
use Rattle.object_stream.specs.NextEntry.{BeginsWithLongEntry, IsEntryError}
use Rattle.object_stream.specs.declared.error.EntryError.{EntryError}
use Rattle.object_stream.specs.declared.object_type.ObjectType.TheVariants as object
use Rattle.graph_objects.specs.Matching.{AreContentsAt, MatchesAt}
use Rattle.graph_objects.specs.Mismatches.{MismatchesAt}
use Rattle.graph_objects.specs.declared.Mismatch.{Mismatch as Difference}
use Rattle.graph_objects.specs.declared.error.ObjectsError.{ObjectsError}
use Rattle.graph_objects.specs.declared.error.ObjectsError.TheVariants.{Entry, Mismatch, LeftOver, Device, OutOfMemory}

-- the id at a position
abbrev pub graph_id_at : List Layer → ℕ → List ℕ
graph_id_at layers p = slice_index_or (graph_ids layers) p []

-- the entries of commits with these contents, for the positions from p on
abbrev pub entries_of : List Layer → ℕ → List (List ℕ) → List ℕ
entries_of layers p all = flat_map (λ e. object_entry object.Commit (graph_id_at layers e.0) e.1) (enumerate_from p all)

-- each of the contents matches the commit at its position, from p on; sizes have 64 bits
abbrev pub AllMatch : List Layer → ℕ → List (List ℕ) → Type 0
AllMatch layers p all = AllByRecursion (λ e. MatchesAt layers e.0 e.1 × (length e.1 < 2 ^ 64)) (enumerate_from p all)

-- The bytes begin with the entries of the positions from first up to p, which match, and this is next.
pub record IsStreamUpTo (layers : List Layer) (first p : ℕ) (bytes next : List ℕ) : Type 0 where
  pub contents : List (List ℕ)
  pub counted : first + length contents ≡ p
  pub agree : AllMatch layers first contents
  pub whole : bytes ≡ entries_of layers first contents ++ next

-- the bytes are the entries of the positions from first up to end, which match, and nothing else
abbrev pub IsStreamOf : List Layer → ℕ → ℕ → List ℕ → Type 0
IsStreamOf layers first end bytes = IsStreamUpTo layers first end bytes []

-- why the bytes do not begin with the entry of the commit at a position: the first reason
abbrev pub IsEntryErrorAt : List Layer → ℕ → List ℕ → EntryError → Type 0
IsEntryErrorAt layers p bytes error =
    IsSomeAnd (slice_get (graph_commits layers) p)
    (λ place. IsEntryError place.0.kind object.Commit (Some (graph_id_at layers p)) bytes error)

-- why the entry of the commit at a position, with which the bytes begin, does not match: the first reason
abbrev pub IsMismatchIn : List Layer → ℕ → List ℕ → Difference → Type 0
IsMismatchIn layers p bytes mismatch =
    (contents : List ℕ) × (next : List ℕ) × BeginsWithEntry object.Commit (graph_id_at layers p) bytes contents next
    × AreContentsAt layers p contents × MismatchesAt layers p contents mismatch

-- the bytes begin with the line of an entry of more than 64 KiB
abbrev pub IsLong : List Layer → ℕ → List ℕ → Type 0
IsLong layers p bytes =
    IsSomeAnd (slice_get (graph_commits layers) p)
    (λ place. BeginsWithLongEntry place.0.kind object.Commit (Some (graph_id_at layers p)) bytes)

-- why the bytes are not the stream of the positions from first up to end: the first entry that is refused, or what is left over
abbrev pub IsStreamRefusal : List Layer → ℕ → ℕ → List ℕ → ObjectsError → Type 0
IsStreamRefusal layers first end bytes (Entry pos error) =
    (next : List ℕ) × (pos.0 < end) × IsStreamUpTo layers first pos.0 bytes next × IsEntryErrorAt layers pos.0 next error
IsStreamRefusal layers first end bytes (Mismatch pos mismatch) =
    (next : List ℕ) × (pos.0 < end) × IsStreamUpTo layers first pos.0 bytes next × IsMismatchIn layers pos.0 next mismatch
IsStreamRefusal layers first end bytes LeftOver = (next : List ℕ) × IsStreamUpTo layers first end bytes next × (next ≢ [])
IsStreamRefusal layers first end bytes Device = ⊥
IsStreamRefusal layers first end bytes OutOfMemory = ⊥

-- the bytes may be refused so: any read may fail
abbrev pub MayRefuseStream : List Layer → ℕ → ℕ → List ℕ → ObjectsError → Type 0
MayRefuseStream layers first end bytes Device = Unit {0}
MayRefuseStream layers first end bytes OutOfMemory = Unit {0}
MayRefuseStream layers first end bytes error = IsStreamRefusal layers first end bytes error

-- the entries before some position match, and the entry there is long
abbrev pub HasLong : List Layer → ℕ → ℕ → List ℕ → Type 0
HasLong layers first end bytes = (p : ℕ) × (next : List ℕ) × (p < end) × IsStreamUpTo layers first p bytes next
    × IsLong layers p next
