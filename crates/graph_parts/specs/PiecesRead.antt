-- What is kept of files is what reads of their paths gave, whatever others write meanwhile.
use Rattle.std.specs.Prelude.{ℕ, List, All, string_bytes}
use Rattle.graph_folder.specs.declared.folder.Part.{Part}
use Rattle.graph_find.specs.PartsRead.{BytesWereRead, HeadWasRead}
use Rattle.graph_parts.specs.PieceBlocks.{HasStretch, stretch_start}
use Rattle.graph_parts.specs.declared.layer.LayerParts.{LayerParts}
use Rattle.graph_parts.specs.declared.offsets.LayerOffsets.{LayerOffsets}
use Rattle.graph_parts.specs.declared.parts.GraphParts.{GraphParts}
use Rattle.graph_parts.specs.declared.pieces.Pieces.{Pieces}
use Rattle.graph_parts.specs.declared.pieces.Stretch.{Stretch}

-- each stretch that is kept is one that a read gave, when the file had this length
abbrev pub PiecesWereRead : (List ℕ → ℕ → Part → Type 0) → List ℕ → ℕ → Pieces → Type 0
PiecesWereRead gives_part path file_len pieces =
    (stretch : Stretch) (bytes : List ℕ) → HasStretch pieces stretch bytes
    → BytesWereRead gives_part path file_len (stretch_start pieces.series stretch) bytes

-- So are the words and numbers of which the corrected dates are made.
pub record OffsetsWereRead (gives_part : List ℕ → ℕ → Part → Type 0) (path : List ℕ) (file_len : ℕ)
    (offsets : LayerOffsets) : Type 0 where
  pub words : PiecesWereRead gives_part path file_len offsets.words
  pub numbers : PiecesWereRead gives_part path file_len offsets.numbers

-- What is kept of a layer's file was read when it had one and the same length.
pub record LayerPartsWereRead (gives_part : List ℕ → ℕ → Part → Type 0) (part : LayerParts) : Type 0 where
  pub head : HeadWasRead gives_part (string_bytes part.file.path) part.file.head
  pub ids : PiecesWereRead gives_part (string_bytes part.file.path) part.file.head.len part.ids
  pub records : PiecesWereRead gives_part (string_bytes part.file.path) part.file.head.len part.records
  pub edges : PiecesWereRead gives_part (string_bytes part.file.path) part.file.head.len part.edges
  pub offsets : OffsetsWereRead gives_part (string_bytes part.file.path) part.file.head.len part.offsets

-- the same of each file
abbrev pub PartsWereRead : (List ℕ → ℕ → Part → Type 0) → GraphParts → Type 0
PartsWereRead gives_part parts = All (LayerPartsWereRead gives_part) parts.layers.items
