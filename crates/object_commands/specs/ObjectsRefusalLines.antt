-- the lines of refusals of `ids` and `objects`, without their ends
use Rattle.std.specs.Prelude.{ℕ, List, [], codes, decimal}
use Rattle.graph_format.specs.declared.Position.{Position}
use Rattle.graph_folder.specs.declared.folder.ReadError.TheVariants as read
use Rattle.object_stream.specs.declared.error.EntryError.{EntryError}
use Rattle.object_stream.specs.declared.error.EntryError.TheVariants as entry
use Rattle.graph_objects.specs.declared.Mismatch.{Mismatch as Difference}
use Rattle.graph_objects.specs.declared.Mismatch.TheVariants.{OtherContents, Unreadable, Tree, Parent, Time}
use Rattle.graph_objects.specs.declared.error.ObjectsError.{ObjectsError}
use Rattle.graph_objects.specs.declared.error.ObjectsError.TheVariants.{Entry, Mismatch, LeftOver, Device, OutOfMemory}
use Rattle.graph_commands.specs.RefusalLines.{refusal_text}
use Rattle.graph_commands.specs.Text.{◌⧺◌}
use Rattle.graph_commands.specs.declared.refusal.Refusal.TheVariants.{Read}
use Rattle.object_commands.specs.declared.refusal.ObjectsRefusal.{ObjectsRefusal}
use Rattle.object_commands.specs.declared.refusal.ObjectsRefusal.TheVariants.{Graph, Range, Stream}

-- the number of the reason for which a record does not match its commit
abbrev pub mismatch_number : Difference → ℕ
mismatch_number OtherContents = 6
mismatch_number Unreadable = 7
mismatch_number Tree = 8
mismatch_number (Parent index) = 9
mismatch_number Time = 10

-- the number of the reason for which the entry of a commit is refused
abbrev pub entry_number : EntryError → ℕ
entry_number entry.Ends = 1
entry_number entry.NoEntry = 2
entry_number entry.OtherId = 3
entry_number entry.Missing = 4
entry_number entry.OtherType = 5
entry_number entry.OtherContents = 6

-- which parent of the commit is another, by its number, which is 0 for the first
abbrev pub index_text : Difference → List ℕ
index_text (Parent index) = codes " index " ⧺ decimal index
index_text mismatch = []

-- why the commit at a position does not match its entry
abbrev pub mismatch_text : Position → Difference → List ℕ
mismatch_text pos mismatch = decimal (mismatch_number mismatch) ⧺ codes " position " ⧺ decimal pos.0 ⧺ index_text mismatch

-- why a stream is refused; that it could not be read is told as `list` tells it
abbrev pub stream_refusal_text : ObjectsError → List ℕ
stream_refusal_text (Entry pos error) =
    codes "refused objects " ⧺ decimal (entry_number error) ⧺ codes " position " ⧺ decimal pos.0
stream_refusal_text (Mismatch pos mismatch) = codes "refused objects " ⧺ mismatch_text pos mismatch
stream_refusal_text LeftOver = codes "refused objects 11"
stream_refusal_text Device = refusal_text (Read read.Device)
stream_refusal_text OutOfMemory = refusal_text (Read read.OutOfMemory)

-- why a command was refused; of a range that the graph lacks it is told how many commits the graph has
abbrev pub objects_refusal_text : ObjectsRefusal → List ℕ
objects_refusal_text (Graph refusal) = refusal_text refusal
objects_refusal_text (Range commits) = codes "refused range commits " ⧺ decimal commits
objects_refusal_text (Stream error) = stream_refusal_text error
