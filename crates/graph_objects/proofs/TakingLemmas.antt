-- Why the entry of a position is taken, and why it is not.
use Rattle.std.proofs.Common.{◌≡◌, ℕ, List, refl, slice_get, Option, Some, None}
use Rattle.std.specs.Prelude.{IfSome}
use Rattle.gix_hash_core.specs.declared.kind.Kind.{Kind}
use Rattle.graph_format.specs.Layer.{Layer}
use Rattle.graph_format.specs.declared.Position.{Position}
use Rattle.gix_commitgraph.specs.Graph.{graph_commits, graph_ids}
use Rattle.object_stream.specs.BatchEntry.{BeginsWithEntry}
use Rattle.object_stream.specs.NextEntry.{BeginsWithLongEntry, IsEntryError, MayStop}
use Rattle.object_stream.specs.FoundEntry.{BothKnown}
use Rattle.object_stream.specs.declared.error.ReadFailure.TheVariants as failure
use Rattle.object_stream.specs.declared.error.StreamError.{StreamError}
use Rattle.object_stream.specs.declared.error.StreamError.TheVariants as stream
use Rattle.object_stream.proofs.EntryLemmas.{both_weaker}
use Rattle.object_stream.specs.declared.object_type.ObjectType.TheVariants as object
use Rattle.graph_objects.specs.Matching.{AreContentsAt, MatchesAt}
use Rattle.graph_objects.specs.Mismatches.{MismatchesAt}
use Rattle.graph_objects.specs.Stream.{graph_id_at}
use Rattle.graph_objects.specs.Taking.{MayRefuseEntry, TakesEntry, stream_error_at}
use Rattle.graph_objects.specs.declared.Mismatch.{Mismatch as Difference}
use Rattle.graph_objects.specs.declared.error.ObjectsError.TheVariants.{Mismatch}
use Rattle.graph_objects.proofs.DigestLemmas.{id_there}

-- the stream gives no entry
pub entry_stop : (layers : List Layer) (pos : Position) (kind : Kind) (id : List ℕ) (layer : Layer) (place : ℕ)
    (before : Option (List ℕ)) (error : StreamError) → slice_get (graph_commits layers) pos.0 ≡ Some (layer, place)
    → layer.kind ≡ kind → slice_get (graph_ids layers) pos.0 ≡ Some id
    → IfSome before (λ bytes. MayStop kind object.Commit (Some id) bytes error)
    → IfSome before (λ bytes. MayRefuseEntry layers pos bytes (stream_error_at pos error))
entry_stop layers pos kind id layer place None error here same there stop = tt
entry_stop layers pos kind id layer place (Some bytes) (stream.Entry e) here same there stop =
    let own : graph_id_at layers pos.0 ≡ id = id_there layers pos.0 id there in
    let refused : IsEntryError layer.kind object.Commit (Some (graph_id_at layers pos.0)) bytes e = rw (same, own) stop in
    (refl, rw here refused)
entry_stop layers pos kind id layer place (Some bytes) (stream.Read failure.Device) here same there stop = tt
entry_stop layers pos kind id layer place (Some bytes) (stream.Read failure.OutOfMemory) here same there stop =
    let own : graph_id_at layers pos.0 ≡ id = id_there layers pos.0 id there in
    let long : BeginsWithLongEntry layer.kind object.Commit (Some (graph_id_at layers pos.0)) bytes = rw (same, own) stop in
    rw here long

-- the contents do not match
pub mismatch_stop : (layers : List Layer) (pos : Position) (id contents : List ℕ) (before : Option (List ℕ)) (m : Difference)
    → graph_id_at layers pos.0 ≡ id
    → IfSome before (λ bytes. (next : List ℕ) × BeginsWithEntry object.Commit id bytes contents next)
    → AreContentsAt layers pos.0 contents → MismatchesAt layers pos.0 contents m
    → IfSome before (λ bytes. MayRefuseEntry layers pos bytes (Mismatch pos m))
mismatch_stop layers pos id contents None m is read own differs = tt
mismatch_stop layers pos id contents (Some bytes) m is read own differs =
    let entry : BeginsWithEntry object.Commit (graph_id_at layers pos.0) bytes contents read.0 = rw is read.1 in
    (refl, (contents, read.0, entry, own, differs))

-- the entry is taken
pub taken : (layers : List Layer) (p : ℕ) (id contents : List ℕ) (before now : Option (List ℕ)) → graph_id_at layers p ≡ id
    → BothKnown (λ bytes next. BeginsWithEntry object.Commit id bytes contents next) before now → MatchesAt layers p contents
    → TakesEntry layers p before now
taken layers p id contents before now is passed matches =
    both_weaker (λ bytes next. BeginsWithEntry object.Commit id bytes contents next)
    (λ bytes next. (all : List ℕ) × BeginsWithEntry object.Commit (graph_id_at layers p) bytes all next
    × MatchesAt layers p all) before now
    (λ bytes next entry. (contents, rw is entry, matches)) passed
