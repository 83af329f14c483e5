-- How far the corrected dates of commits lie from their times, in a file of which parts are read ("Generation Data", "Generation
-- Data Overflow").
use Rattle.std.specs.Prelude.{◌≡◌, ◌≢◌, ℕ, ◌+◌, ◌*◌, ◌<◌, ◌≤◌, List, [], codes, length, min, slice_get, slice_range, Option}
use Rattle.std.specs.Prelude.{IsTrue, None, Some, unwrap_or}
use Rattle.graph_folder.specs.Tree.{Tree}
use Rattle.graph_format.specs.Format.{chunk_of}
use Rattle.graph_format.specs.Head.{BeginsWith}
use Rattle.graph_format.specs.Layer.{Layer}
use Rattle.graph_format.specs.OptionalChunks.{date_of, offsets_in, overflow_in, times_in}
use Rattle.gix_commitgraph.specs.Graph.{graph_commits}
use Rattle.graph_find.specs.declared.head.Head.{Head}
use Rattle.graph_parts.specs.PieceBlocks.{AreOf, AreSized, FitsIn, KeepsNothing, ReadsMore}
use Rattle.graph_parts.specs.declared.offsets.LayerOffsets.{LayerOffsets}
use Rattle.graph_parts.specs.declared.pieces.Series.{Series}

-- the bytes of a file's chunk with an id, none where it is missing
abbrev pub bytes_of_chunk : List ℕ → List ℕ → List ℕ
bytes_of_chunk file id = unwrap_or (chunk_of file id) []

-- the bytes of the words, one for each commit, and of the numbers that do not fit a word
abbrev pub words_in_file : List ℕ → List ℕ
words_in_file file = bytes_of_chunk file (codes "GDA2")

abbrev pub numbers_in_file : List ℕ → List ℕ
numbers_in_file file = bytes_of_chunk file (codes "GDO2")

-- a piece of a chunk lies in it, and in its file it is the piece of a series with the same index
abbrev pub IsPieceOfChunk : List ℕ → List ℕ → ℕ → Series → ℕ → Type 0
IsPieceOfChunk file id size series i =
    (size * i + size ≤ length (bytes_of_chunk file id))
    × (slice_range file (series.start + size * i) (series.start + size * i + size)
    ≡ slice_range (bytes_of_chunk file id) (size * i) (size * i + size))

-- The pieces are integers of so many bytes in a chunk, in each file that begins with the head.
pub record AreIntegersOf (head : Head) (id : List ℕ) (width : ℕ) (series : Series) : Type 0 where
  pub size : series.size ≡ width
  pub fits : FitsIn series head.len
  pub each : (file : List ℕ) → BeginsWith file head.front.items head.len → (i : ℕ) → i < series.count
      → IsPieceOfChunk file id width series i

-- Where the words and the numbers lie, and each stretch of them has its length.
pub record AreLayerOffsets (head : Head) (offsets : LayerOffsets) : Type 0 where
  pub there : IsTrue offsets.has_words → (file : List ℕ) → BeginsWith file head.front.items head.len
      → chunk_of file (codes "GDA2") ≢ None
  pub words : AreIntegersOf head (codes "GDA2") 4 offsets.words.series
  pub numbers : AreIntegersOf head (codes "GDO2") 8 offsets.numbers.series
  pub sized_words : AreSized offsets.words
  pub sized_numbers : AreSized offsets.numbers

-- What is kept of them is that of a file.
pub record AreOffsetsOf (offsets : LayerOffsets) (file : List ℕ) : Type 0 where
  pub words : AreOf offsets.words file
  pub numbers : AreOf offsets.numbers file

-- nothing is kept of them
abbrev pub KeepsNoOffset : LayerOffsets → Type 0
KeepsNoOffset offsets = KeepsNothing offsets.words × KeepsNothing offsets.numbers

-- More may be kept of both: where the tree is known, of the file at the path.
pub record ReadsOffsets (known : Option Tree) (path : List ℕ) (old new : LayerOffsets) : Type 0 where
  pub words : ReadsMore known path old.words new.words
  pub numbers : ReadsMore known path old.numbers new.numbers

-- the corrected date that is stored of the commit at a position of a layer, up to the greatest number of 64 bits
abbrev pub date_in_layer : Layer → ℕ → ℕ
date_in_layer layer pos =
    min (date_of (offsets_in layer) (overflow_in layer) (times_in layer) pos) 18446744073709551615

-- That of the commit at a position of a graph.
pub record StoresDate (layers : List Layer) (p date : ℕ) : Type 0 where
  pub layer : Layer
  pub pos : ℕ
  pub stands : slice_get (graph_commits layers) p ≡ Some (layer, pos)
  pub says : date ≡ date_in_layer layer pos
