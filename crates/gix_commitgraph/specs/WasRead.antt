-- What a graph was read from, whatever stood in the folder before or after each read: others may write while it is opened.
-- ("Commit-Graphs Chains" of Git's commit-graph design.)
use Rattle.std.specs.Prelude.{◌≡◌, ◌⊎◌, ℕ, List, All, map}
use Rattle.std.specs.Str.Lines.{lines}
use Rattle.graph_format.specs.Layer.{Layer}
use Rattle.graph_layer.specs.LayerOpening.{LayerWasRead}
use Rattle.gix_commitgraph.specs.OpenAlways.{IsFromFile}
use Rattle.gix_commitgraph.specs.Paths.{chain_path, info_chain, info_file, layer_path}

-- the one layer is the file at the path, as it was read
abbrev pub FileWasRead : (List ℕ → List ℕ → Type 0) → List ℕ → List Layer → Type 0
FileWasRead gives path layers = IsFromFile path layers × All (LayerWasRead gives) layers

-- The layers of a chain folder, as they were read: a read of its chain file gave this text, whose lines name the layers in
-- their order, and each is the file of its line, as a read gave it.
pub record ChainWasRead (gives : List ℕ → List ℕ → Type 0) (folder : List ℕ) (layers : List Layer) : Type 0 where
  pub text : List ℕ
  pub given : gives (chain_path folder) text
  pub named : map (λ layer. layer.path) layers ≡ map (layer_path folder) (lines text)
  pub read : All (LayerWasRead gives) layers

-- the layers are those of the info folder's file, or of its chain, as they were read
abbrev pub InfoWasRead : (List ℕ → List ℕ → Type 0) → List ℕ → List Layer → Type 0
InfoWasRead gives folder layers = FileWasRead gives (info_file folder) layers ⊎ ChainWasRead gives (info_chain folder) layers

-- those of a file, of a chain folder or of an info folder at the path, as they were read
abbrev pub PathWasRead : (List ℕ → List ℕ → Type 0) → List ℕ → List Layer → Type 0
PathWasRead gives path layers =
    FileWasRead gives path layers ⊎ (ChainWasRead gives path layers ⊎ InfoWasRead gives path layers)
