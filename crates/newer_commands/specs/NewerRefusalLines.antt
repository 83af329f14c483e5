-- the lines of refusals of questions for which newer commits are asked for, without their ends, and their exit statuses
use Rattle.std.specs.Prelude.{ℕ, List, codes, decimal}
use Rattle.hex.specs.Hex.{encode_lower}
use Rattle.object_stream.specs.declared.error.EntryError.{EntryError}
use Rattle.object_stream.specs.declared.error.EntryError.TheVariants as entry
use Rattle.graph_commands.specs.RefusalLines.{refusal_status, refusal_text}
use Rattle.graph_commands.specs.Text.{◌⧺◌}
use Rattle.newer_commands.specs.declared.refusal.NewerRefusal.{NewerRefusal}
use Rattle.newer_commands.specs.declared.refusal.NewerRefusal.TheVariants.{Changed, Common, Entry, Unreadable, Cycle, Full}

-- the number of the reason for which what answers a request is refused
abbrev pub newer_entry_number : EntryError → ℕ
newer_entry_number entry.Ends = 1
newer_entry_number entry.NoEntry = 2
newer_entry_number entry.OtherId = 3
newer_entry_number entry.Missing = 4
newer_entry_number entry.OtherType = 5
newer_entry_number entry.OtherContents = 6

-- why a question was refused; an id is told in lower-case hexadecimal
abbrev pub newer_refusal_text : NewerRefusal → List ℕ
newer_refusal_text (Common refusal) = refusal_text refusal
newer_refusal_text (Entry id error) =
    codes "refused newer " ⧺ decimal (newer_entry_number error) ⧺ codes " id " ⧺ encode_lower id
newer_refusal_text (Unreadable id) = codes "refused newer 7 id " ⧺ encode_lower id
newer_refusal_text (Cycle id) = codes "refused newer 8 id " ⧺ encode_lower id
newer_refusal_text Full = codes "refused newer 9"
newer_refusal_text Changed = codes "refused newer 10"

-- as without newer commits, and 1 for what is wrong with those that were asked for
abbrev pub newer_refusal_status : NewerRefusal → ℕ
newer_refusal_status (Common refusal) = refusal_status refusal
newer_refusal_status refusal = 1
