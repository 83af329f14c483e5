-- the lines of refusals, without their ends, and the exit statuses that go with them
use Rattle.std.specs.Prelude.{ℕ, List, codes, decimal}
use Rattle.graph_format.specs.declared.error.FileError.{FileError}
use Rattle.graph_format.specs.declared.error.FileError.TheVariants.{Chunks}
use Rattle.graph_layer.specs.declared.opening.error.OpenError.{OpenError}
use Rattle.graph_layer.specs.declared.opening.error.OpenError.TheVariants as opening
use Rattle.graph_format.specs.declared.fault.LayerFault.{LayerFault}
use Rattle.graph_format.specs.declared.fault.LayerFault.TheVariants.{Checksum, FileName, Fan}
use Rattle.gix_commitgraph.specs.declared.verify.VerifyError.{VerifyError}
use Rattle.gix_commitgraph.specs.declared.verify.VerifyError.TheVariants as check
use Rattle.graph_ancestors.specs.declared.checking.NoFault.{NoFault}
use Rattle.graph_commands.specs.declared.refusal.Refusal.{Refusal}
use Rattle.graph_commands.specs.declared.refusal.Refusal.TheVariants.{Id, Read, File, Open, Verify, Walk}
use Rattle.graph_commands.specs.InputErrorNumbers.{id_number, read_number}
use Rattle.graph_format.specs.ErrorNumbers.{chunk_number, commit_number, file_number, graph_number, parent_number}
use Rattle.graph_commands.specs.Text.{◌⧺◌}

-- a file that is no layer, by its number; a fault of its table of chunks by that number too
abbrev pub file_text : FileError → List ℕ
file_text (Chunks error) = codes "file 5 chunk " ⧺ decimal (chunk_number error)
file_text error = codes "file " ⧺ decimal (file_number error)

-- a path that opens no graph; lines and layers count from 0
abbrev pub open_text : OpenError → List ℕ
open_text opening.NothingFound = codes "1"
open_text opening.NotOpened = codes "2"
open_text opening.Device = codes "3"
open_text (opening.ChainNotText line) = codes "4 line " ⧺ decimal line
open_text (opening.Layer layer error) = codes "5 layer " ⧺ decimal layer ⧺ codes " " ⧺ file_text error
open_text (opening.Graph error) = codes "6 graph " ⧺ decimal (graph_number error)
open_text opening.OutOfMemory = codes "7"

-- what is wrong with a layer as a whole
abbrev pub fault_text : LayerFault → List ℕ
fault_text Checksum = codes "1"
fault_text FileName = codes "2"
fault_text (Fan byte) = codes "3 byte " ⧺ decimal byte

-- a graph that fails its check. The processor of the check refuses no commit, so that the line of such a refusal never comes
abbrev pub verify_error_text : VerifyError NoFault → List ℕ
verify_error_text check.TooManyFiles = codes "1"
verify_error_text (check.BaseCount layer) = codes "2 layer " ⧺ decimal layer
verify_error_text (check.BaseId layer index) = codes "3 layer " ⧺ decimal layer ⧺ codes " index " ⧺ decimal index
verify_error_text (check.Layer layer fault) = codes "4 layer " ⧺ decimal layer ⧺ codes " fault " ⧺ fault_text fault
verify_error_text (check.Commit pos fault) = codes "5 position " ⧺ decimal pos.0 ⧺ codes " fault " ⧺ decimal (commit_number fault)
verify_error_text (check.Parent pos error) = codes "6 position " ⧺ decimal pos.0 ⧺ codes " error " ⧺ decimal (parent_number error)
verify_error_text (check.ParentOutOfRange pos parent) = codes "7 position " ⧺ decimal pos.0 ⧺ codes " parent " ⧺ decimal parent.0
verify_error_text (check.Generation pos expected) = codes "8 position " ⧺ decimal pos.0 ⧺ codes " expected " ⧺ decimal expected
verify_error_text (check.Processor pos error) = codes "9 position " ⧺ decimal pos.0
verify_error_text check.OutOfMemory = codes "10"
verify_error_text (check.DuplicateId pos earlier) = codes "11 position " ⧺ decimal pos.0 ⧺ codes " earlier " ⧺ decimal earlier.0

-- why a command was refused
abbrev pub refusal_text : Refusal → List ℕ
refusal_text (Id error) = codes "refused id " ⧺ decimal (id_number error)
refusal_text (Read error) = codes "refused read " ⧺ decimal (read_number error)
refusal_text (File error) = codes "refused " ⧺ file_text error
refusal_text (Open error) = codes "refused open " ⧺ open_text error
refusal_text (Verify error) = codes "refused verify " ⧺ verify_error_text error
refusal_text Walk = codes "refused walk"

-- 2 for a text that is no id, and 1 for what is wrong with what was read
abbrev pub refusal_status : Refusal → ℕ
refusal_status (Id error) = 2
refusal_status refusal = 1
