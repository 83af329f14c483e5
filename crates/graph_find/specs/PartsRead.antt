-- Parts of files as they were read, whatever stood in the folder before or after each read: others may write meanwhile.
-- ("Commit-Graphs Chains" of Git's commit-graph design.)
use Rattle.std.specs.Prelude.{◌≡◌, ℕ, List, length, string_bytes, take}
use Rattle.std.specs.List.{AllZip}
use Rattle.std.specs.Str.Lines.{lines}
use Rattle.graph_folder.specs.declared.folder.Part.{Part}
use Rattle.gix_commitgraph.specs.Paths.{chain_path, layer_path}
use Rattle.graph_find.specs.declared.chain.ChainLayer.{ChainLayer}
use Rattle.graph_find.specs.declared.head.Head.{Head}

-- A read gave these bytes as the part of the file at the path from this offset on, when the file had this length.
pub record BytesWereRead (gives_part : List ℕ → ℕ → Part → Type 0) (path : List ℕ) (file_len start : ℕ) (bytes : List ℕ)
    : Type 0 where
  pub part : Part
  pub given : gives_part path start part
  pub len : part.file_len ≡ file_len
  pub same : part.bytes.items ≡ bytes

-- A read gave the first bytes of the file at the path, when the file had the head's length, and the head's bytes are their
-- first.
pub record HeadWasRead (gives_part : List ℕ → ℕ → Part → Type 0) (path : List ℕ) (head : Head) : Type 0 where
  pub bytes : List ℕ
  pub read : BytesWereRead gives_part path head.len 0 bytes
  pub first : take (length head.front.items) bytes ≡ head.front.items

-- A line of the folder's chain file names the layer, and its head was read.
pub record LineWasRead (gives_part : List ℕ → ℕ → Part → Type 0) (folder line : List ℕ) (layer : ChainLayer) : Type 0 where
  pub path : string_bytes layer.path ≡ layer_path folder line
  pub head : HeadWasRead gives_part (string_bytes layer.path) layer.head

-- A read of the folder's chain file gave this text, whose lines name the layers in their order, and their heads were read.
pub record HeadsWereRead (gives : List ℕ → List ℕ → Type 0) (gives_part : List ℕ → ℕ → Part → Type 0) (folder : List ℕ)
    (layers : List ChainLayer) : Type 0 where
  pub text : List ℕ
  pub given : gives (chain_path folder) text
  pub each : AllZip (LineWasRead gives_part folder) (lines text) layers
