-- the lines of refusals of `paths`, without their ends
use Rattle.std.specs.Prelude.{ℕ, List, codes, decimal}
use Rattle.hex.specs.Hex.{encode_lower}
use Rattle.object_stream.specs.declared.error.EntryError.{EntryError}
use Rattle.object_stream.specs.declared.error.EntryError.TheVariants as entry
use Rattle.graph_commands.specs.Text.{◌⧺◌}
use Rattle.history_commands.specs.Check.{check_refusal_text}
use Rattle.path_checks.specs.declared.error.PathsFault.{PathsFault}
use Rattle.path_checks.specs.declared.error.PathsFault.TheVariants.{Entry, Unreadable, Order, TooDeep, TooMuch, Lacks}
use Rattle.path_checks.specs.declared.error.PathsFault.TheVariants.{Differs, Other}
use Rattle.path_commands.specs.QuotedPath.{quoted_path}
use Rattle.path_commands.specs.declared.refusal.PathsRefusal.{PathsRefusal}
use Rattle.path_commands.specs.declared.refusal.PathsRefusal.TheVariants.{Common, Filter}

-- the number of the reason for which what answers a request is refused
abbrev pub paths_entry_number : EntryError → ℕ
paths_entry_number entry.Ends = 1
paths_entry_number entry.NoEntry = 2
paths_entry_number entry.OtherId = 3
paths_entry_number entry.Missing = 4
paths_entry_number entry.OtherType = 5
paths_entry_number entry.OtherContents = 6

-- the number of the reason for which the filter of a commit is refused
abbrev pub fault_number : PathsFault → ℕ
fault_number (Entry id error) = paths_entry_number error
fault_number (Unreadable id number) = 7
fault_number (Order id number) = 8
fault_number TooDeep = 9
fault_number TooMuch = 10
fault_number (Lacks path) = 11
fault_number Differs = 12
fault_number Other = 13

-- what is told besides: the number of an entry, which counts from 0, an id in lower-case hexadecimal, or a path in quotes
abbrev pub fault_details : PathsFault → List ℕ
fault_details (Entry id error) = codes " id " ⧺ encode_lower id
fault_details (Unreadable id number) = codes " entry " ⧺ decimal number ⧺ codes " id " ⧺ encode_lower id
fault_details (Order id number) = codes " entry " ⧺ decimal number ⧺ codes " id " ⧺ encode_lower id
fault_details TooDeep = codes ""
fault_details TooMuch = codes ""
fault_details (Lacks path) = codes " path " ⧺ quoted_path path.items
fault_details Differs = codes ""
fault_details Other = codes ""

-- why the filters of a graph are not found right
abbrev pub paths_refusal_text : PathsRefusal → List ℕ
paths_refusal_text (Common refusal) = check_refusal_text refusal
paths_refusal_text (Filter pos fault) =
    codes "refused paths " ⧺ decimal (fault_number fault) ⧺ codes " position " ⧺ decimal pos.0 ⧺ fault_details fault
