-- What is kept after a read was read.
use Rattle.std.proofs.Common.{◌≡◌, ℕ, ◌<◌, List, [], ◌∷◌, All, length, map, string_bytes, get_or, Some, inl, inr, refl, sym}
use Rattle.std.proofs.Common.{subst}
use Rattle.std.specs.List.{AllZip, slice_get}
use Rattle.std.specs.Vec.{with_item}
use Rattle.std.proofs.lemmas.List.Elements.{All-cons, All-head, All-nil, All-tail}
use Rattle.std.proofs.lemmas.Option.{slice_get_read}
use Rattle.graph_folder.specs.declared.folder.Part.{Part}
use Rattle.graph_find.specs.PartsRead.{BytesWereRead, HeadWasRead, LineWasRead}
use Rattle.graph_parts.specs.PieceBlocks.{AddsStretch, KeepsSame, stretch_start}
use Rattle.graph_parts.specs.PiecesRead.{LayerPartsWereRead, OffsetsWereRead, PartsWereRead, PiecesWereRead}
use Rattle.graph_parts.specs.ShownLayer.{KeepsHeadAlone}
use Rattle.graph_parts.specs.declared.layer.LayerParts.{LayerParts}
use Rattle.graph_parts.specs.declared.offsets.LayerOffsets.{LayerOffsets}
use Rattle.graph_parts.specs.declared.parts.GraphParts.{GraphParts}
use Rattle.graph_parts.specs.declared.pieces.Pieces.{Pieces}
use Rattle.graph_parts.specs.declared.pieces.Series.{Series}
use Rattle.graph_parts.specs.declared.pieces.Stretch.{Stretch}
use Rattle.graph_parts.proofs.BlockLemmas.{same-back}
use Rattle.graph_parts.proofs.ZipLemmas.{all-get, all-set}

module _ (gives_part : List ℕ → ℕ → Part → Type 0) (path : List ℕ) (file_len : ℕ) where
  abbrev Were : Stretch → List ℕ → Series → Type 0
  Were stretch bytes series = BytesWereRead gives_part path file_len (stretch_start series stretch) bytes

  pub given-same : (old new : Pieces) → KeepsSame old new → PiecesWereRead gives_part path file_len old
      → PiecesWereRead gives_part path file_len new
  given-same old new is were s b keeps = subst (Were s b) (sym is.series) (were s b (same-back old new is s b keeps))

  -- a stretch more
  pub given-added : (old new : Pieces) (added : Stretch) (bytes : List ℕ) → AddsStretch old new added bytes
      → BytesWereRead gives_part path file_len (stretch_start old.series added) bytes
      → PiecesWereRead gives_part path file_len old → PiecesWereRead gives_part path file_len new
  given-added old new added bytes adds read were s b keeps =
      subst (Were s b) (sym adds.series)
      (elim (adds.only s b keeps) [
        | inl kept ↦ were s b kept
        | inr is ↦ rw (is.0, is.1) read
      ])

module _ (gives_part : List ℕ → ℕ → Part → Type 0) (part : LayerParts) (more : Pieces) where
  abbrev WereOf : Pieces → Type 0
  WereOf pieces = PiecesWereRead gives_part (string_bytes part.file.path) part.file.head.len pieces

  -- more ids, records or words
  pub given-ids : (WereOf part.ids → WereOf more) → LayerPartsWereRead gives_part part
      → LayerPartsWereRead gives_part (record part { ids = more })
  given-ids reads were = record {
    head = were.head;
    ids = reads were.ids;
    records = were.records;
    edges = were.edges;
    offsets = were.offsets;
  }

  pub given-records : (WereOf part.records → WereOf more) → LayerPartsWereRead gives_part part
      → LayerPartsWereRead gives_part (record part { records = more })
  given-records reads were = record {
    head = were.head;
    ids = were.ids;
    records = reads were.records;
    edges = were.edges;
    offsets = were.offsets;
  }

  pub given-edges : (WereOf part.edges → WereOf more) → LayerPartsWereRead gives_part part
      → LayerPartsWereRead gives_part (record part { edges = more })
  given-edges reads were = record {
    head = were.head;
    ids = were.ids;
    records = were.records;
    edges = reads were.edges;
    offsets = were.offsets;
  }

-- more words or numbers of dates
module _ (gives_part : List ℕ → ℕ → Part → Type 0) (path : List ℕ) (file_len : ℕ) (old : LayerOffsets) (more : Pieces) where
  pub given-words : (PiecesWereRead gives_part path file_len old.words → PiecesWereRead gives_part path file_len more)
      → OffsetsWereRead gives_part path file_len old
      → OffsetsWereRead gives_part path file_len (record old { words = more })
  given-words reads were = record { words = reads were.words; numbers = were.numbers }

  pub given-numbers : (PiecesWereRead gives_part path file_len old.numbers → PiecesWereRead gives_part path file_len more)
      → OffsetsWereRead gives_part path file_len old
      → OffsetsWereRead gives_part path file_len (record old { numbers = more })
  given-numbers reads were = record { words = were.words; numbers = reads were.numbers }

pub given-offsets : (gives_part : List ℕ → ℕ → Part → Type 0) (part : LayerParts) (more : LayerOffsets)
    → (OffsetsWereRead gives_part (string_bytes part.file.path) part.file.head.len part.offsets
    → OffsetsWereRead gives_part (string_bytes part.file.path) part.file.head.len more)
    → LayerPartsWereRead gives_part part → LayerPartsWereRead gives_part (record part { offsets = more })
given-offsets gives_part part more reads were = record {
  head = were.head;
  ids = were.ids;
  records = were.records;
  edges = were.edges;
  offsets = reads were.offsets;
}

-- more of one layer
pub given-set : (gives_part : List ℕ → ℕ → Part → Type 0) (old : GraphParts) (l : ℕ) (part more : LayerParts)
    → l < length old.layers.items → part ≡ get_or old.layers.items l part
    → (LayerPartsWereRead gives_part part → LayerPartsWereRead gives_part more) → PartsWereRead gives_part old
    → PartsWereRead gives_part (record { layers = with_item old.layers l more })
given-set gives_part old l part more within at reads were =
    let items = old.layers.items in
    let here : slice_get items l ≡ Some part = slice_get_read items (length items) l part refl within at in
    all-set (LayerPartsWereRead gives_part) items l more were
    (reads (all-get (LayerPartsWereRead gives_part) items l part were here))

-- nothing was read but the head
pub head-read : (gives_part : List ℕ → ℕ → Part → Type 0) (part : LayerParts)
    → HeadWasRead gives_part (string_bytes part.file.path) part.file.head → KeepsHeadAlone part
    → LayerPartsWereRead gives_part part
head-read gives_part part head alone = record {
  head = head;
  ids = λ s b keeps. absurd (alone.0 s b keeps);
  records = λ s b keeps. absurd (alone.1 s b keeps);
  edges = λ s b keeps. absurd (alone.2 s b keeps);
  offsets = record {
    words = λ s b keeps. absurd (alone.3.0 s b keeps);
    numbers = λ s b keeps. absurd (alone.3.1 s b keeps);
  };
}

-- and of each layer of a chain
pub heads-alone : (gives_part : List ℕ → ℕ → Part → Type 0) (folder : List ℕ) (names : List (List ℕ)) (parts : List LayerParts)
    → AllZip (LineWasRead gives_part folder) names (map (λ (part : LayerParts). part.file) parts) → All KeepsHeadAlone parts
    → All (LayerPartsWereRead gives_part) parts
heads-alone gives_part folder names [] zip alone = All-nil (LayerPartsWereRead gives_part)
heads-alone gives_part folder [] (part ∷ parts) zip alone = absurd zip
heads-alone gives_part folder (name ∷ names) (part ∷ parts) zip alone =
    All-cons (LayerPartsWereRead gives_part) part parts
    (head-read gives_part part zip.0.head (All-head KeepsHeadAlone part parts alone))
    (heads-alone gives_part folder names parts zip.1 (All-tail KeepsHeadAlone part parts alone))
