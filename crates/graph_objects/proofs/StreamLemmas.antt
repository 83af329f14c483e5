-- Entries one behind another.
use Rattle.std.proofs.Common.{◌≡◌, ℕ, ◌+◌, ◌^◌, ◌<◌, ◌≤◌, List, [], ◌∷◌, ◌++◌, length, refl, sym, ap, ◌∙◌, arith}
use Rattle.std.proofs.Common.{append_assoc, append-nil, add-zero}
use Rattle.std.proofs.Common.{Option, Some, None}
use Rattle.std.specs.Prelude.{IfSome}
use Rattle.std.specs.Io.KnownBytes.{Keeps, IsAtEnd, prepend_known}
use Rattle.std.proofs.lemmas.List.{length-append, nil_from_length}
use Rattle.graph_format.specs.Layer.{Layer}
use Rattle.graph_format.specs.declared.Position.{Position}
use Rattle.object_stream.specs.BatchEntry.{object_entry, BeginsWithEntry}
use Rattle.object_stream.specs.FoundEntry.{BothKnown}
use Rattle.object_stream.specs.declared.object_type.ObjectType.TheVariants as object
use Rattle.graph_objects.specs.Matching.{MatchesAt}
use Rattle.graph_objects.specs.Stream.{graph_id_at, entries_of, AllMatch, IsStreamUpTo, IsStreamOf, IsLong}
use Rattle.graph_objects.specs.Stream.{MayRefuseStream, HasLong}
use Rattle.graph_objects.specs.Taking.{TakesEntry, MayRefuseEntry}
use Rattle.graph_objects.specs.declared.error.ObjectsError.{ObjectsError}
use Rattle.graph_objects.specs.declared.error.ObjectsError.TheVariants.{Entry, Mismatch, LeftOver, Device, OutOfMemory}

-- one entry more
pub entries_of-push : (layers : List Layer) (p : ℕ) (all : List (List ℕ)) (contents : List ℕ)
    → entries_of layers p (all ++ contents ∷ []) ≡ entries_of layers p all ++ object_entry object.Commit
    (graph_id_at layers (p + length all))
    contents
entries_of-push layers p [] contents =
    append-nil (object_entry object.Commit (graph_id_at layers p) contents)
    ∙ ap (λ k. object_entry object.Commit (graph_id_at layers k) contents) (sym (add-zero p))
entries_of-push layers p (first ∷ all) contents =
    let same : p + 1 + length all ≡ p + length (first ∷ all) = omega arith in
    ap (λ l. object_entry object.Commit (graph_id_at layers p) first ++ l)
    (entries_of-push layers (p + 1) all contents
    ∙ ap (λ k. entries_of layers (p + 1) all ++ object_entry object.Commit (graph_id_at layers k) contents) same)
    ∙ sym (append_assoc (object_entry object.Commit (graph_id_at layers p) first) (entries_of layers (p + 1) all)
    (object_entry object.Commit (graph_id_at layers (p + length (first ∷ all))) contents))

pub AllMatch-push : (layers : List Layer) (p : ℕ) (all : List (List ℕ)) (contents : List ℕ) → AllMatch layers p all
    → MatchesAt layers (p + length all) contents → length contents < 2 ^ 64 → AllMatch layers p (all ++ contents ∷ [])
AllMatch-push layers p [] contents agree matches fits = let here : MatchesAt layers p contents = rw (add-zero p)
    at matches in ((here, fits), tt)
AllMatch-push layers p (first ∷ all) contents agree matches fits =
    let same : p + length (first ∷ all) ≡ p + 1 + length all = omega arith in
    (agree.0, AllMatch-push layers (p + 1) all contents agree.1 (rw same at matches) fits)

pub none_passed : (layers : List Layer) (first : ℕ) (bytes : List ℕ) → IsStreamUpTo layers first first bytes bytes
none_passed layers first bytes = record { contents = []; counted = omega arith; agree = tt; whole = refl }

pub one_passed : (layers : List Layer) (first p : ℕ) (bytes mid contents next : List ℕ) → IsStreamUpTo layers first p bytes mid
    → BeginsWithEntry object.Commit (graph_id_at layers p) mid contents next → MatchesAt layers p contents
    → IsStreamUpTo layers first (p + 1) bytes next
one_passed layers first p bytes mid contents next passed entry matches =
    let all = passed.contents in
    let matches_there : MatchesAt layers (first + length all) contents = rw passed.counted matches in
    record {
      contents = all ++ contents ∷ [];
      counted = omega (arith, length-append all (contents ∷ []), passed.counted);
      agree = AllMatch-push layers first all contents passed.agree matches_there entry.fits;
      whole = passed.whole ∙ ap (λ l. entries_of layers first all ++ l) entry.whole
          ∙ sym (append_assoc (entries_of layers first all) (object_entry object.Commit (graph_id_at layers p) contents) next)
          ∙ ap (λ k. (entries_of layers first all ++ object_entry object.Commit (graph_id_at layers k) contents) ++ next)
          (sym passed.counted)
          ∙ ap (λ l. l ++ next) (sym (entries_of-push layers first all contents));
    }

-- the same where the bytes may not be known
abbrev pub Passed : List Layer → ℕ → ℕ → Option (List ℕ) → Option (List ℕ) → Type 0
Passed layers first p before now = BothKnown (IsStreamUpTo layers first p) before now

pub none_known : (layers : List Layer) (first : ℕ) (before : Option (List ℕ))
    → Passed layers first first before (prepend_known [] before)
none_known layers first None = tt
none_known layers first (Some bytes) = none_passed layers first bytes

pub one_known : (layers : List Layer) (first p : ℕ) (before mid now : Option (List ℕ)) → Passed layers first p before mid
    → TakesEntry layers p mid now
    → Passed layers first (p + 1) before now
one_known layers first p None mid now passed takes = tt
one_known layers first p (Some bytes) None now passed takes = absurd passed
one_known layers first p (Some bytes) (Some mid) None passed takes = absurd takes
one_known layers first p (Some bytes) (Some mid) (Some next) passed takes =
    one_passed layers first p bytes mid takes.0 next passed takes.1 takes.2

-- the entry of a position is refused
pub stopped : (layers : List Layer) (first end : ℕ) (pos : Position) (before now : Option (List ℕ)) (error : ObjectsError)
    → pos.0 < end
    → Passed layers first pos.0 before now → IfSome now (λ bytes. MayRefuseEntry layers pos bytes error)
    → IfSome before (λ bytes. MayRefuseStream layers first end bytes error)
stopped layers first end pos None now error within passed stop = tt
stopped layers first end pos (Some bytes) None error within passed stop = absurd passed
stopped layers first end pos (Some bytes) (Some next) (Entry other e) within passed stop =
    rw stop.0 (next, within, passed, stop.1)
stopped layers first end pos (Some bytes) (Some next) (Mismatch other m) within passed stop =
    rw stop.0 (next, within, passed, stop.1)
stopped layers first end pos (Some bytes) (Some next) LeftOver within passed stop = absurd stop
stopped layers first end pos (Some bytes) (Some next) Device within passed stop = tt
stopped layers first end pos (Some bytes) (Some next) OutOfMemory within passed stop = tt

-- and so for want of memory
pub long_stopped : (layers : List Layer) (first end : ℕ) (pos : Position) (before now : Option (List ℕ)) (error : ObjectsError)
    → pos.0 < end
    → Passed layers first pos.0 before now → IfSome now (λ bytes. MayRefuseEntry layers pos bytes error) → error ≡ OutOfMemory
    → IfSome before (HasLong layers first end)
long_stopped layers first end pos None now error within passed stop memory = tt
long_stopped layers first end pos (Some bytes) None error within passed stop memory = absurd passed
long_stopped layers first end pos (Some bytes) (Some next) error within passed stop memory =
    let long : IsLong layers pos.0 next = rw memory at stop in
    (pos.0, next, within, passed, long)

-- at the end they are all, where nothing is left
pub all_passed : (layers : List Layer) (first end : ℕ) (before known after : Option (List ℕ)) (old view : List ℕ)
    → Passed layers first end before (prepend_known old known) → Keeps (prepend_known old known) (prepend_known view after)
    → length view ≤ 0
    → IsAtEnd after → IfSome before (IsStreamOf layers first end)
all_passed layers first end None known after old view passed kept none ended = tt
all_passed layers first end (Some x) None after old view passed kept none ended = absurd passed
all_passed layers first end (Some x) (Some y) None old view passed kept none ended = absurd kept
all_passed layers first end (Some x) (Some y) (Some z) old view passed kept none ended =
    let empty : old ++ y ≡ [] = sym kept ∙ ap (λ l. l ++ z) (nil_from_length view (omega (arith, none))) ∙ ended in
    rw empty at passed

-- and where something is
pub some_left : (layers : List Layer) (first end : ℕ) (before known after : Option (List ℕ)) (old view : List ℕ)
    → Passed layers first end before (prepend_known old known) → Keeps (prepend_known old known) (prepend_known view after)
    → 0 < length view
    → IfSome before (λ bytes. MayRefuseStream layers first end bytes LeftOver)
some_left layers first end None known after old view passed kept some = tt
some_left layers first end (Some x) None after old view passed kept some = absurd passed
some_left layers first end (Some x) (Some y) None old view passed kept some = absurd kept
some_left layers first end (Some x) (Some y) (Some z) old view passed kept some =
    (old ++ y, passed, λ none. omega (arith, some, ap length (kept ∙ none), length-append view z))

-- where nothing could be read
pub end_read : (layers : List Layer) (first end : ℕ) (before : Option (List ℕ))
    → IfSome before (λ bytes. MayRefuseStream layers first end bytes Device)
end_read layers first end None = tt
end_read layers first end (Some bytes) = tt
