-- the lines of refusals of `write`, without their ends
use Rattle.std.specs.Prelude.{ℕ, List, codes, decimal}
use Rattle.graph_folder.specs.declared.folder.ReadError.TheVariants as read
use Rattle.graph_commands.specs.RefusalLines.{refusal_text}
use Rattle.graph_commands.specs.Text.{◌⧺◌}
use Rattle.graph_commands.specs.declared.refusal.Refusal.TheVariants.{Read}
use Rattle.graph_writer.specs.declared.commit.WriteError.{WriteError}
use Rattle.graph_writer.specs.declared.commit.WriteError.TheVariants as error
use Rattle.history_commands.specs.Check.{check_refusal_text}
use Rattle.history_commands.specs.declared.check.CheckRefusal.TheVariants as check
use Rattle.object_stream.specs.declared.error.EntryError.{EntryError}
use Rattle.object_stream.specs.declared.error.EntryError.TheVariants as entry
use Rattle.write_commands.specs.declared.error.CommitsError.{CommitsError}
use Rattle.write_commands.specs.declared.error.CommitsError.TheVariants.{Entry, Unreadable, Device, OutOfMemory}
use Rattle.write_commands.specs.declared.refusal.LayerRefusal.{LayerRefusal}
use Rattle.write_commands.specs.declared.refusal.LayerRefusal.TheVariants.{Graph, Stream, Commits}

-- the number of the reason for which an entry of a stream is refused; no id is expected, so that none is another
abbrev pub new_entry_number : EntryError → ℕ
new_entry_number entry.OtherId = 0
new_entry_number entry.Ends = 1
new_entry_number entry.NoEntry = 2
new_entry_number entry.Missing = 3
new_entry_number entry.OtherType = 4
new_entry_number entry.OtherContents = 5

-- why a stream says no commits; that it could not be read is told as `list` tells it. Entries count from 0
abbrev pub commits_refusal_text : CommitsError → List ℕ
commits_refusal_text (Entry number fault) =
    codes "refused stream " ⧺ decimal (new_entry_number fault) ⧺ codes " entry " ⧺ decimal number
commits_refusal_text (Unreadable number) = codes "refused stream 6 entry " ⧺ decimal number
commits_refusal_text Device = refusal_text (Read read.Device)
commits_refusal_text OutOfMemory = refusal_text (Read read.OutOfMemory)

-- why commits make no layer; commits count from 0, as do the parents of one. Wrong dates below are told as `check` tells them
abbrev pub write_refusal_text : WriteError → List ℕ
write_refusal_text (error.Kind i) = codes "refused write 1 commit " ⧺ decimal i
write_refusal_text (error.NullId i) = codes "refused write 2 commit " ⧺ decimal i
write_refusal_text (error.NullTree i) = codes "refused write 3 commit " ⧺ decimal i
write_refusal_text (error.Time i) = codes "refused write 4 commit " ⧺ decimal i
write_refusal_text (error.Twice i earlier) = codes "refused write 5 commit " ⧺ decimal i ⧺ codes " earlier " ⧺ decimal earlier
write_refusal_text (error.Below i pos) = codes "refused write 6 commit " ⧺ decimal i ⧺ codes " position " ⧺ decimal pos.0
write_refusal_text (error.Parent i index) = codes "refused write 7 commit " ⧺ decimal i ⧺ codes " index " ⧺ decimal index
write_refusal_text (error.Cycle i) = codes "refused write 8 commit " ⧺ decimal i
write_refusal_text error.Nothing = codes "refused write 9"
write_refusal_text error.TooManyCommits = codes "refused write 10 limit 1"
write_refusal_text error.TooManyEdges = codes "refused write 10 limit 2"
write_refusal_text error.TooManyLayers = codes "refused write 10 limit 3"
write_refusal_text error.OutOfMemory = codes "refused write 11"
write_refusal_text (error.Dates fault) = check_refusal_text (check.Dates fault)

-- why `write` was refused
abbrev pub layer_refusal_text : LayerRefusal → List ℕ
layer_refusal_text (Graph refusal) = refusal_text refusal
layer_refusal_text (Stream fault) = commits_refusal_text fault
layer_refusal_text (Commits fault) = write_refusal_text fault
