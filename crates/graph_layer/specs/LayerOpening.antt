-- What the file at a path of a tree is as a layer.
use Rattle.std.specs.Prelude.{◌≡◌, ℕ, List, ⊤}
use Rattle.std.specs.Option.{ok_or}
use Rattle.std.specs.declared.result.Result.{Result}
use Rattle.graph_folder.specs.Tree.{Tree, file_at}
use Rattle.graph_format.specs.Layer.{IsLayer, Layer}
use Rattle.graph_layer.specs.OpenAnswer.{and_then, result_map_err}
use Rattle.graph_format.specs.Opened.{layer_of}
use Rattle.graph_layer.specs.OpenRefusals.{layer_refused}
use Rattle.graph_layer.specs.declared.opening.error.OpenError.{OpenError}
use Rattle.graph_layer.specs.declared.opening.error.OpenError.TheVariants.{NotOpened, Device, Layer as layer_error, OutOfMemory}

-- the bytes of the file at a path
abbrev pub bytes_at : Tree → List ℕ → Result (List ℕ) OpenError
bytes_at tree path = ok_or (file_at tree path) NotOpened

-- the layer of a file's bytes, which is to be layer i
abbrev pub layer_of_bytes : ℕ → List ℕ → List ℕ → Result Layer OpenError
layer_of_bytes i bytes path = result_map_err (layer_refused i) (layer_of bytes path)

-- the layer of the file at a path
abbrev pub layer_at : Tree → ℕ → List ℕ → Result Layer OpenError
layer_at tree i path = and_then (bytes_at tree path) (λ bytes. layer_of_bytes i bytes path)

-- The layer is a file that was there, as it was read: a read of its path gave these bytes, the whole file, and they are the
-- file of this layer.
pub record LayerWasRead (gives : List ℕ → List ℕ → Type 0) (layer : Layer) : Type 0 where
  pub bytes : List ℕ
  pub given : gives layer.path bytes
  pub spelled : IsLayer bytes layer.path layer

-- the errors of reading a file
abbrev pub IsReadError : OpenError → Type 0
IsReadError NotOpened = ⊤
IsReadError Device = ⊤
IsReadError OutOfMemory = ⊤
IsReadError _ = ⊥

-- of opening a file as layer i
abbrev pub IsLayerError : ℕ → OpenError → Type 0
IsLayerError i (layer_error j error) = j ≡ i
IsLayerError i error = IsReadError error
