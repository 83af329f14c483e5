-- What each opener answers, whatever stands in the folder: from which files its graph is read, and with which errors.
use Rattle.std.specs.Prelude.{◌≡◌, ◌<◌, ◌≤◌, ◌+◌, ◌⊎◌, ℕ, List, [], ◌∷◌, All, map, ⊤}
use Rattle.graph_format.specs.Layer.{Layer}
use Rattle.gix_commitgraph.specs.GraphLaw.{IsRefusal}
use Rattle.graph_layer.specs.LayerOpening.{IsLayerError}
use Rattle.gix_commitgraph.specs.Paths.{info_chain, info_file, layer_path}
use Rattle.graph_format.specs.declared.TheConstants.{MAX_COMMITS}
use Rattle.graph_format.specs.declared.error.GraphError.TheVariants.{NoFiles, TooManyCommits, HashMismatch}
use Rattle.graph_format.specs.declared.error.GraphError.TheVariants.{OutOfMemory as graph_OutOfMemory}
use Rattle.graph_layer.specs.declared.opening.error.OpenError.{OpenError}
use Rattle.graph_layer.specs.declared.opening.error.OpenError.TheVariants.{NothingFound, ChainNotText, OutOfMemory}
use Rattle.graph_layer.specs.declared.opening.error.OpenError.TheVariants.{Graph as graph_error}

-- the one layer is the file at the path
abbrev pub IsFromFile : List ℕ → List Layer → Type 0
IsFromFile path layers = map (λ layer. layer.path) layers ≡ path ∷ []

-- each layer is a file that a line of the folder's chain file can name
abbrev pub IsFromChain : List ℕ → List Layer → Type 0
IsFromChain folder layers = All (λ layer. (line : List ℕ) × (layer.path ≡ layer_path folder line)) layers

-- the layers are those of the info folder's file, or of its chain
abbrev pub IsFromInfo : List ℕ → List Layer → Type 0
IsFromInfo folder layers = IsFromFile (info_file folder) layers ⊎ IsFromChain (info_chain folder) layers

-- the path is that of a file, of a chain folder or of an info folder
abbrev pub IsFromPath : List ℕ → List Layer → Type 0
IsFromPath path layers = IsFromFile path layers ⊎ (IsFromChain path layers ⊎ IsFromInfo path layers)

-- of opening a file as a graph: those of its one layer, which is layer 0, and that this has too many commits
abbrev pub IsFileError : OpenError → Type 0
IsFileError (graph_error (TooManyCommits commits)) = MAX_COMMITS < commits
IsFileError (graph_error error) = ⊥
IsFileError error = IsLayerError 0 error

-- of opening a chain folder or an info folder; a layer of another kind than the one before it is not the first
abbrev pub IsFolderError : OpenError → Type 0
IsFolderError NothingFound = ⊥
IsFolderError (graph_error NoFiles) = ⊤
IsFolderError (graph_error (TooManyCommits commits)) = MAX_COMMITS < commits
IsFolderError (graph_error (HashMismatch layer)) = 0 < layer
IsFolderError (graph_error graph_OutOfMemory) = ⊥
IsFolderError error = ⊤

-- of opening what stands at a path: that nothing does, and those of a folder, among which are those of a file
abbrev pub IsPathError : OpenError → Type 0
IsPathError NothingFound = ⊤
IsPathError error = IsFolderError error

-- of opening the layer that line i of a chain names
abbrev pub IsLineError : ℕ → OpenError → Type 0
IsLineError i (ChainNotText line) = line ≡ i
IsLineError i error = IsLayerError i error

-- of opening the layers that so many lines of a chain name, from line first on: those of one of the lines
abbrev pub IsErrorOfLines : ℕ → ℕ → OpenError → Type 0
IsErrorOfLines first count error = (i : ℕ) × (first ≤ i) × (i < first + count) × IsLineError i error

-- of making a graph of layers
abbrev pub IsErrorOfLayers : List Layer → OpenError → Type 0
IsErrorOfLayers layers (graph_error error) = IsRefusal layers error
IsErrorOfLayers layers OutOfMemory = ⊤
IsErrorOfLayers layers error = ⊥
