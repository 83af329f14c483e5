-- what opening answers for bytes and a path
use Rattle.std.specs.Prelude.{◌≡◌, ◌⊎◌, ◌↔◌, ℕ, List, Option, Some, None, Result, Ok, Err}
use Rattle.graph_format.specs.Layer.{Layer, IsLayer, decoded_layer}
use Rattle.graph_format.specs.Refusal.{refusal}
use Rattle.graph_format.specs.declared.error.FileError.{FileError}
use Rattle.graph_format.specs.declared.error.FileError.TheVariants.{OutOfMemory}

-- the refusal, else the layer
abbrev pub unless_refused : Option FileError → Layer → Result Layer FileError
unless_refused None layer = Ok layer
unless_refused (Some error) layer = Err error

-- what opening answers where there is memory: the refusal of the bytes, else their layer
abbrev pub layer_of : List ℕ → List ℕ → Result Layer FileError
layer_of bytes path = unless_refused (refusal bytes) (decoded_layer bytes path)

-- the errors that opening may answer: the refusal of the bytes, and out of memory where they have none
abbrev pub MayRefuse : List ℕ → FileError → Type 0
MayRefuse bytes error = (refusal bytes ≡ Some error) ⊎ ((error ≡ OutOfMemory) × (refusal bytes ≡ None))

-- opening answers a layer exactly where the bytes are a file of it, and an error exactly where that is their refusal
pub record IsAnswered (bytes path : List ℕ) : Type 0 where
  pub layer : (layer : Layer) → (layer_of bytes path ≡ Ok layer) ↔ IsLayer bytes path layer
  pub error : (error : FileError) → (layer_of bytes path ≡ Err error) ↔ (refusal bytes ≡ Some error)
