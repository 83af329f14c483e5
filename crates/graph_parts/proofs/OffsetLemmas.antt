-- how far the corrected dates of a layer's commits lie from their times
use Rattle.std.proofs.Common.{◌≡◌, ℕ, ◌+◌, ◌*◌, ◌/◌, ◌<◌, ◌≤◌, List, length, slice_index, slice_range, string_bytes}
use Rattle.std.proofs.Common.{◌-◌, ◌⊎◌, [], All, Bool, inl, inr, Option, None, take, Some, codes}
use Rattle.std.proofs.Common.{if◌then◌else◌, nat_lt, unwrap_or}
use Rattle.std.proofs.Common.{refl, sym, ap, subst, ◌∙◌, arith}
use Rattle.std.specs.List.{AllZip}
use Rattle.std.specs.Int.{w32, w64, from_be_bytes}
use Rattle.std.proofs.lemmas.Bool.{le-ltb, lt-ltb}
use Rattle.std.proofs.lemmas.List.{get_or-take, take_all}
use Rattle.gix_chunk_core.specs.Table.{Chunks, Table, range_of}
use Rattle.graph_folder.specs.Tree.{Tree}
use Rattle.graph_format.specs.ChunkRanges.{IsChunkAt}
use Rattle.graph_format.specs.Head.{BeginsWith}
use Rattle.graph_format.specs.Integers.{long_in, word_in}
use Rattle.graph_format.specs.Layer.{Layer}
use Rattle.graph_format.specs.OptionalChunks.{HasDates, offset_of}
use Rattle.graph_format.specs.declared.chunks.ChunkRange.{ChunkRange}
use Rattle.graph_format.proofs.ChunkLemmas.{chunk_of-found}
use Rattle.graph_format.proofs.PieceLemmas.{length-slice_range, slice_range-slice_range}
use Rattle.graph_find.specs.declared.head.Head.{Head}
use Rattle.graph_parts.specs.Offsets.{AreIntegersOf, AreLayerOffsets, AreOffsetsOf, ReadsOffsets, bytes_of_chunk}
use Rattle.graph_parts.specs.PieceBlocks.{AreSized, ReadsMore}
use Rattle.graph_parts.specs.ShownLayer.{IsLayerParts, SeesMoreOfLayer, ShowsLayer}
use Rattle.graph_parts.specs.declared.layer.LayerParts.{LayerParts}
use Rattle.graph_parts.specs.declared.offsets.LayerOffsets.{LayerOffsets}
use Rattle.graph_parts.specs.declared.pieces.Pieces.{Pieces}
use Rattle.graph_parts.specs.declared.pieces.Series.{Series}
use Rattle.graph_parts.proofs.ZipLemmas.{zip-all}

-- nothing more is read
pub reads-none : (known : Option Tree) (path : List ℕ) (pieces : Pieces) → AreSized pieces → ReadsMore known path pieces pieces
reads-none known path pieces sized = record {
  series = refl;
  sized = sized;
  kept = λ file of. of;
  told = λ tree is file at of. of;
}

pub offsets-none : (known : Option Tree) (path : List ℕ) (head : Head) (offsets : LayerOffsets) → AreLayerOffsets head offsets
    → ReadsOffsets known path offsets offsets
offsets-none known path head offsets right = record {
  words = reads-none known path offsets.words right.sized_words;
  numbers = reads-none known path offsets.numbers right.sized_numbers;
}

-- more is read, and then still more
pub reads-after : (known : Option Tree) (path : List ℕ) (old mid new : Pieces) → ReadsMore known path old mid
    → ReadsMore known path mid new → ReadsMore known path old new
reads-after known path old mid new first second = record {
  series = second.series ∙ first.series;
  sized = second.sized;
  kept = λ file of. first.kept file (second.kept file of);
  told = λ tree is file at of. second.told tree is file at (first.told tree is file at of);
}

pub offsets-after : (known : Option Tree) (path : List ℕ) (old mid new : LayerOffsets) → ReadsOffsets known path old mid
    → ReadsOffsets known path mid new → ReadsOffsets known path old new
offsets-after known path old mid new first second = record {
  words = reads-after known path old.words mid.words new.words first.words second.words;
  numbers = reads-after known path old.numbers mid.numbers new.numbers first.numbers second.numbers;
}

-- what was kept before is of the file too
pub offsets-before : (known : Option Tree) (path file : List ℕ) (old new : LayerOffsets) → ReadsOffsets known path old new
    → AreOffsetsOf new file → AreOffsetsOf old file
offsets-before known path file old new reads of = record {
  words = reads.words.kept file of.words;
  numbers = reads.numbers.kept file of.numbers;
}

module _ (known : Option Tree) (path : List ℕ) (head : Head) (old : LayerOffsets) (right : AreLayerOffsets head old) where
  -- words were read
  module _ (words : Pieces) (reads : ReadsMore known path old.words words) where
    pub reads-words : ReadsOffsets known path old (record old { words = words })
    reads-words = record { words = reads; numbers = reads-none known path old.numbers right.sized_numbers }

    pub right-words : AreLayerOffsets head (record old { words = words })
    right-words = record {
      there = right.there;
      words = subst (AreIntegersOf head (codes "GDA2") 4) (sym reads.series) right.words;
      numbers = right.numbers;
      sized_words = reads.sized;
      sized_numbers = right.sized_numbers;
    }

  -- numbers were read
  module _ (numbers : Pieces) (reads : ReadsMore known path old.numbers numbers) where
    pub reads-numbers : ReadsOffsets known path old (record old { numbers = numbers })
    reads-numbers = record { words = reads-none known path old.words right.sized_words; numbers = reads }

    pub right-numbers : AreLayerOffsets head (record old { numbers = numbers })
    right-numbers = record {
      there = right.there;
      words = right.words;
      numbers = subst (AreIntegersOf head (codes "GDO2") 8) (sym reads.series) right.numbers;
      sized_words = right.sized_words;
      sized_numbers = reads.sized;
    }

-- an integer of a chunk
module _ (head : Head) (id file bytes : List ℕ) (series : Series) (i : ℕ) (begins : BeginsWith file head.front.items head.len)
    (within : i < series.count)
    (here : bytes ≡ slice_range file (series.start + series.size * i) (series.start + series.size * i + series.size)) where
  integer-there : (size : ℕ) → AreIntegersOf head id size series
      → bytes ≡ slice_range (bytes_of_chunk file id) (size * i) (size * i + size)
  integer-there size are =
      here
      ∙ ap (λ (n : ℕ). slice_range file (series.start + n * i) (series.start + n * i + n)) are.size
      ∙ (are.each file begins i within).1

  pub word-there : AreIntegersOf head id 4 series → length bytes ≡ 4
      → from_be_bytes w32 (slice_range bytes 0 4) ≡ word_in (bytes_of_chunk file id) i
  word-there are long =
      ap (from_be_bytes w32) (take_all 4 bytes (omega (arith, long)) ∙ integer-there 4 are)

  -- one of eight bytes has its room there
  pub long-within : AreIntegersOf head id 8 series → i < length (bytes_of_chunk file id) / 8
  long-within are = omega (arith, (are.each file begins i within).0)

  pub long-there : AreIntegersOf head id 8 series → length bytes ≡ 8
      → from_be_bytes w64 (slice_range bytes 0 8) ≡ long_in (bytes_of_chunk file id) i
  long-there are long =
      ap (from_be_bytes w64) (take_all 8 bytes (omega (arith, long)) ∙ integer-there 8 are)

-- where a chunk lies, by the table that was read of the first bytes
pub chunk-at : (file front : List ℕ) (len count : ℕ) (table : Table) (id : List ℕ) (start end : ℕ) → BeginsWith file front len
    → count ≡ slice_index front 6 → 6 < length front → Chunks file 8 count table → range_of table id ≡ Some (start, end)
    → IsChunkAt file id (record { start = start; end = end })
chunk-at file front len count table id start end begins is long right found =
    let byte : slice_index front 6 ≡ slice_index file 6 =
    ap (λ (bytes : List ℕ). slice_index bytes 6) (sym begins.starts) ∙ get_or-take (length front) file 6 0 long in
    chunk_of-found file table id start end (subst (λ (n : ℕ). Chunks file 8 n table) (is ∙ byte) right) found

-- as many integers of a chunk as it has room for
module _ (size : ℕ) (one : (size ≡ 4) ⊎ (size ≡ 8)) where
  count-fits : (long : ℕ) → size * (long / size) ≤ long
  count-fits long = elim one [
    | inl is ↦ subst (λ (n : ℕ). n * (long / n) ≤ long) (sym is) (omega arith)
    | inr is ↦ subst (λ (n : ℕ). n * (long / n) ≤ long) (sym is) (omega arith)
  ]

  piece-room : (i long : ℕ) → i < long / size → size * i + size ≤ long
  piece-room i long lt = elim one [
    | inl is ↦
        let below : i < long / 4 = subst (λ (n : ℕ). i < long / n) is lt in
        subst (λ (n : ℕ). n * i + n ≤ long) (sym is) (omega (arith, below))
    | inr is ↦
        let below : i < long / 8 = subst (λ (n : ℕ). i < long / n) is lt in
        subst (λ (n : ℕ). n * i + n ≤ long) (sym is) (omega (arith, below))
  ]

part-of-part : (file : List ℕ) (start end from size : ℕ) → start ≤ end → from + size ≤ end - start
    → slice_range file (start + from) (start + from + size) ≡ slice_range (slice_range file start end) from (from + size)
part-of-part file start end from size order fits =
    ap (slice_range file (start + from)) (omega arith)
    ∙ sym (slice_range-slice_range file start end from (from + size) (omega (arith, order, fits)))

pub integers-lie : (head : Head) (id : List ℕ) (size : ℕ) (place : ChunkRange) → (size ≡ 4) ⊎ (size ≡ 8)
    → (place.start ≤ place.end) × (place.end ≤ head.len)
    → ((file : List ℕ) → BeginsWith file head.front.items head.len → IsChunkAt file id place)
    → AreIntegersOf head id size (record { start = place.start; size = size; count = (place.end - place.start) / size })
integers-lie head id size place one order at = record {
  size = refl;
  fits = omega (arith, count-fits size one (place.end - place.start), order.0, order.1);
  each = λ file begins i within.
      let here = at file begins in
      let whole : bytes_of_chunk file id ≡ slice_range file place.start place.end =
      ap (λ (o : Option (List ℕ)). unwrap_or o []) here.chunk in
      let long = length-slice_range file place.start place.end here.in_file in
      let fits = piece-room size one i (place.end - place.start) within in (
        omega (arith, ap (λ (bytes : List ℕ). length bytes) whole, long, fits),
        part-of-part file place.start place.end (size * i) size order.0 fits
            ∙ ap (λ (bytes : List ℕ). slice_range bytes (size * i) (size * i + size)) (sym whole),
      );
}

-- a word that is the offset, and one that names the number which is
module _ (words numbers : List ℕ) (p word : ℕ) (is : word ≡ word_in words p) where
  abbrev named : ℕ → Option ℕ
  named k = if nat_lt k (length numbers / 8) then Some (long_in numbers k) else None

  pub offset-word : word < 2147483648 → offset_of words numbers p ≡ Some word
  offset-word small =
      ap (λ (b : Bool). if b then Some (word_in words p) else named (word_in words p - 2147483648))
      (lt-ltb (word_in words p) 2147483648 (omega (arith, is, small)))
      ∙ ap (λ (n : ℕ). Some n) (sym is)

  pub offset-number : (k number : ℕ) → 2147483648 ≤ word → k ≡ word - 2147483648 → k < length numbers / 8
      → number ≡ long_in numbers k → offset_of words numbers p ≡ Some number
  offset-number k number large at within says =
      let same : word_in words p - 2147483648 ≡ k = omega (arith, is, at) in
      ap (λ (b : Bool). if b then Some (word_in words p) else named (word_in words p - 2147483648))
      (le-ltb (word_in words p) 2147483648 (omega (arith, is, large)))
      ∙ ap named same
      ∙ ap (λ (b : Bool). if b then Some (long_in numbers k) else None) (lt-ltb k (length numbers / 8) within)
      ∙ ap (λ (n : ℕ). Some n) (sym says)

-- more of the offsets was read
module _ (known : Option Tree) (part : LayerParts) (more : LayerOffsets) where
  pub sees-offsets : ReadsOffsets known (string_bytes part.file.path) part.offsets more
      → SeesMoreOfLayer known part (record part { offsets = more })
  sees-offsets reads = record {
    same = refl;
    kept = λ layer shows. record {
      of = shows.of;
      ids = shows.ids;
      records = shows.records;
      edges = shows.edges;
      offsets = offsets-before known (string_bytes part.file.path) shows.of.file part.offsets more reads shows.offsets;
    };
    told = λ tree is layer shows. record {
      of = shows.of;
      ids = shows.ids;
      records = shows.records;
      edges = shows.edges;
      offsets = record {
        words = reads.words.told tree is shows.of.file (shows.of.stands tree is) shows.offsets.words;
        numbers = reads.numbers.told tree is shows.of.file (shows.of.stands tree is) shows.offsets.numbers;
      };
    };
  }

  pub parts-offsets : AreLayerOffsets part.file.head more → IsLayerParts part → IsLayerParts (record part { offsets = more })
  parts-offsets right is = record {
    head = is.head;
    ids = is.ids;
    records = is.records;
    edges = is.edges;
    sized_ids = is.sized_ids;
    sized_records = is.sized_records;
    sized_edges = is.sized_edges;
    offsets = right;
  }

-- each layer of a part has dates
abbrev pub ShowsDates : LayerParts → Type 0
ShowsDates part = (known : Option Tree) (layer : Layer) → ShowsLayer known part layer → HasDates layer

-- so has each of all parts
pub dates-shown : (parts : List LayerParts) (count : ℕ) → length parts ≤ count → All ShowsDates (take count parts)
    → (known : Option Tree) (layers : List Layer) → AllZip (ShowsLayer known) parts layers → All HasDates layers
dates-shown parts count past all known layers shows =
    zip-all ShowsDates (ShowsLayer known) HasDates (λ part layer has. has known layer) parts layers
    (subst (All ShowsDates) (take_all count parts past) all) shows
