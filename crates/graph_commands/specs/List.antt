-- the answers of `list`, their texts and their exit statuses
use Rattle.std.specs.Prelude.{◌≡◌, ℕ, ◌⊎◌, List, Result, Ok, Err, codes}
use Rattle.graph_format.specs.Layer.{Layer, IsLayer}
use Rattle.graph_format.specs.Opened.{MayRefuse}
use Rattle.graph_folder.specs.declared.folder.ReadError.TheVariants as read
use Rattle.graph_commands.specs.declared.refusal.Refusal.{Refusal}
use Rattle.graph_commands.specs.declared.refusal.Refusal.TheVariants.{Id, Read, File, Open, Verify, Walk}
use Rattle.graph_commands.specs.RefusalLines.{refusal_text, refusal_status}
use Rattle.graph_commands.specs.Listing.{listing_text}
use Rattle.graph_commands.specs.Text.{◌⧺◌, newline}

-- the path that `list` gives its layer
abbrev pub list_path : List ℕ
list_path = codes "-"

-- what `list` may answer for an input: the layer that the input is a file of; why it is none; that it could not be read, or that
-- memory ran out before it was; or that memory ran out for the layer of a file that nothing refuses
abbrev pub MayList : List ℕ → Result Layer Refusal → Type 0
MayList input (Ok layer) = IsLayer input list_path layer
MayList input (Err (Read error)) = (error ≡ read.Device) ⊎ (error ≡ read.OutOfMemory)
MayList input (Err (File error)) = MayRefuse input error
MayList input (Err (Id error)) = ⊥
MayList input (Err (Open error)) = ⊥
MayList input (Err (Verify error)) = ⊥
MayList input (Err Walk) = ⊥

-- the listing of a layer, or the line of a refusal
abbrev pub list_text : Result Layer Refusal → List ℕ
list_text (Ok layer) = listing_text layer
list_text (Err refusal) = refusal_text refusal ⧺ newline

-- 0 for a listing, and else the status of the refusal
abbrev pub list_status : Result Layer Refusal → ℕ
list_status (Ok layer) = 0
list_status (Err refusal) = refusal_status refusal
