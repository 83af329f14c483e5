-- The graph of a chain: its layers are files at some places, of which one may stand several times. ("Commit-Graphs Chains" of
-- Git's commit-graph design.)
use Rattle.std.specs.Prelude.{◌≡◌, ℕ, List, Option, Some, None, MatchOption, filter_map, length, nat_le, position, slice_get}
use Rattle.graph_format.specs.Layer.{Layer}
use Rattle.c_opening.specs.Codes.{no_such_layer}
use Rattle.c_opening.specs.Files.{IsOpenedFrom, RefusesFiles}
use Rattle.c_opening.specs.declared.open.CgError.{CgError}
use Rattle.c_opening.specs.declared.open.CgFile.{CgFile}

-- the files at these places; a place past their end has none
abbrev pub files_at : List CgFile → List ℕ → List CgFile
files_at files places = filter_map (slice_get files) places

-- the first layer whose place has no file
abbrev pub layer_without_file : List CgFile → List ℕ → Option ℕ
layer_without_file files places = position (λ place. nat_le (length files) place) places

-- the layers of the files at these places, each of which has one, make a graph
abbrev pub IsChainOf : List CgFile → List ℕ → List Layer → Type 0
IsChainOf files places layers = (layer_without_file files places ≡ None) × IsOpenedFrom (files_at files places) layers

-- The first layer without a file is told, or where each has one, the first refusal of the files at these places.
abbrev pub RefusesChain : List CgFile → List ℕ → CgError → Type 0
RefusesChain files places e =
    MatchOption (layer_without_file files places) (RefusesFiles (files_at files places) e)
    (λ layer. e ≡ record { code = no_such_layer; layer = layer })

-- the layer has a number, at which this place stands
pub record IsLayerAt (layers : List Layer) (places : List ℕ) (place : ℕ) (layer : Layer) : Type 0 where
  pub number : ℕ
  pub stands : slice_get places number ≡ Some place
  pub found : slice_get layers number ≡ Some layer
