-- What an opener answers for the refusals of the calls beneath it. Out of memory stays out of memory.
use Rattle.std.specs.Prelude.{◌≡◌, ℕ, ⊤}
use Rattle.graph_folder.specs.declared.folder.ReadError.{ReadError}
use Rattle.graph_folder.specs.declared.folder.ReadError.TheVariants.{NotOpened as read_NotOpened, Device as read_Device}
use Rattle.graph_folder.specs.declared.folder.ReadError.TheVariants.{OutOfMemory as read_OutOfMemory}
use Rattle.graph_format.specs.declared.error.FileError.{FileError}
use Rattle.graph_format.specs.declared.error.FileError.TheVariants.{OutOfMemory as file_OutOfMemory}
use Rattle.graph_format.specs.declared.error.GraphError.{GraphError}
use Rattle.graph_format.specs.declared.error.GraphError.TheVariants.{OutOfMemory as graph_OutOfMemory}
use Rattle.graph_layer.specs.declared.opening.error.OpenError.{OpenError}
use Rattle.graph_layer.specs.declared.opening.error.OpenError.TheVariants.{NotOpened, Device, Layer, Graph, OutOfMemory}

abbrev pub read_refused : ReadError → OpenError
read_refused read_NotOpened = NotOpened
read_refused read_Device = Device
read_refused read_OutOfMemory = OutOfMemory

-- the file that is to be layer i is refused
abbrev pub layer_refused : ℕ → FileError → OpenError
layer_refused i file_OutOfMemory = OutOfMemory
layer_refused i error = Layer i error

abbrev pub graph_refused : GraphError → OpenError
graph_refused graph_OutOfMemory = OutOfMemory
graph_refused error = Graph error

-- out of memory is an error of its own: no layer and no graph is refused for it
abbrev pub OutOfMemoryStandsAlone : OpenError → Type 0
OutOfMemoryStandsAlone (Layer i error) = ¬ (error ≡ file_OutOfMemory)
OutOfMemoryStandsAlone (Graph error) = ¬ (error ≡ graph_OutOfMemory)
OutOfMemoryStandsAlone _ = ⊤
