-- why an answer is not read by parts, where a read of a file failed, and how many reads have failed then
use Rattle.std.specs.Prelude.{ℕ, Bool, true, false}
use Rattle.std.specs.declared.result.Result.{Result}
use Rattle.std.specs.declared.result.Result.TheVariants.{Err}
use Rattle.graph_folder.specs.Failures.{one_more}
use Rattle.graph_folder.specs.declared.folder.ReadError.{ReadError}
use Rattle.graph_folder.specs.declared.folder.ReadError.TheVariants.{NotOpened, Device as read_Device}
use Rattle.graph_folder.specs.declared.folder.ReadError.TheVariants.{OutOfMemory as read_OutOfMemory}
use Rattle.graph_unchecked.specs.declared.unread.Unread.{Unread}
use Rattle.graph_unchecked.specs.declared.unread.Unread.TheVariants.{Device, OutOfMemory, NotByParts}

abbrev pub unread_of : ReadError → Unread
unread_of NotOpened = NotByParts
unread_of read_Device = Device
unread_of read_OutOfMemory = OutOfMemory

-- the count of device failures after a call with this answer, which stops at the first
abbrev pub failures_after_reads : {A : Type 0} → Result A Unread → ℕ → ℕ
failures_after_reads (Err Device) count = one_more count
failures_after_reads _ count = count

-- For private contracts: the count of device failures, of which one was met or none
abbrev pub failures_met : Bool → ℕ → ℕ
failures_met true count = one_more count
failures_met false count = count
