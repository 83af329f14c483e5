-- a graph that was opened from files, and why none was
use Rattle.std.specs.Prelude.{◌≡◌, ◌⊎◌, ℕ, List, [], ◌∷◌, Some, None, IsSomeAnd, ⊤, slice_get, take}
use Rattle.std.specs.Str.{IsUtf8}
use Rattle.graph_format.specs.Layer.{Layer, IsLayer}
use Rattle.graph_format.specs.Opened.{MayRefuse}
use Rattle.graph_format.specs.declared.error.FileError.{FileError}
use Rattle.graph_format.specs.declared.error.GraphError.{GraphError}
use Rattle.graph_format.specs.declared.error.GraphError.TheVariants as graph
use Rattle.gix_commitgraph.specs.GraphRefusal.{graph_refusal}
use Rattle.c_opening.specs.Codes.{file_code, graph_code, path_not_utf8}
use Rattle.c_opening.specs.declared.open.CgError.{CgError}
use Rattle.c_opening.specs.declared.open.CgFile.{CgFile}

-- each file is one of the layer that has its place
abbrev pub AreLayersOf : List CgFile → List Layer → Type 0
AreLayersOf [] [] = ⊤
AreLayersOf [] (layer ∷ layers) = ⊥
AreLayersOf (file ∷ files) [] = ⊥
AreLayersOf (file ∷ files) (layer ∷ layers) = IsLayer file.bytes.now file.path.now layer × AreLayersOf files layers

-- the layers of the files, which make a graph
abbrev pub IsOpenedFrom : List CgFile → List Layer → Type 0
IsOpenedFrom files layers = AreLayersOf files layers × (graph_refusal layers ≡ None)

-- how it is told that there is no error
abbrev pub no_error : CgError
no_error = record { code = 0; layer = 0 }

-- how it is told that the path of a layer is not UTF-8, why its bytes are refused, and why layers make no graph
abbrev pub told_path : ℕ → CgError
told_path layer = record { code = path_not_utf8; layer = layer }

abbrev pub told_file : ℕ → FileError → CgError
told_file layer error = record { code = file_code error; layer = layer }

abbrev pub told_graph : GraphError → CgError
told_graph (graph.HashMismatch layer) = record { code = graph_code (graph.HashMismatch layer); layer = layer }
told_graph x = record { code = graph_code x; layer = 0 }

-- The file that is to be this layer, by a path that is UTF-8, is refused by its bytes; or an allocation failed, and its bytes are
-- not refused.
pub record RefusesBytes (layer : ℕ) (f : CgFile) (e : CgError) : Type 0 where
  pub text : IsUtf8 f.path.now
  pub error : FileError
  pub may : MayRefuse f.bytes.now error
  pub told : e ≡ told_file layer error

-- The file that is to be this layer is refused: its path is not UTF-8, or else its bytes are refused.
abbrev pub RefusesFile : ℕ → CgFile → CgError → Type 0
RefusesFile layer f e = ((¬ IsUtf8 f.path.now) × (e ≡ told_path layer)) ⊎ RefusesBytes layer f e

-- One of the files is refused, and each before it is a layer.
pub record RefusesFirst (files : List CgFile) (e : CgError) : Type 0 where
  pub layers : List Layer
  pub before : AreLayersOf (take e.layer files) layers
  pub refused : IsSomeAnd (slice_get files e.layer) (λ f. RefusesFile e.layer f e)

-- Each file is a layer, and the layers make no graph; or an allocation failed, and they make one.
pub record RefusesLayers (files : List CgFile) (e : CgError) : Type 0 where
  pub layers : List Layer
  pub all : AreLayersOf files layers
  pub error : GraphError
  pub may : (graph_refusal layers ≡ Some error) ⊎ ((error ≡ graph.OutOfMemory) × (graph_refusal layers ≡ None))
  pub told : e ≡ told_graph error

-- The first refusal of files is told: of the first file that is no layer, or else of the layers.
abbrev pub RefusesFiles : List CgFile → CgError → Type 0
RefusesFiles files e = RefusesFirst files e ⊎ RefusesLayers files e
