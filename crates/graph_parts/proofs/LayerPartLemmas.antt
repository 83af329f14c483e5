-- what the parts of a layer's file show
use Rattle.std.proofs.Common.{◌≡◌, ℕ, ◌+◌, ◌*◌, ◌/◌, ◌<◌, ◌≤◌, List, [], length, slice_range, slice_index, string_bytes, Option}
use Rattle.std.proofs.Common.{Some, None, ◌≢◌, IsTrue, codes, min, unwrap_or}
use Rattle.std.proofs.Common.{refl, sym, ap, subst, ◌∙◌, arith}
use Rattle.std.specs.Int.{w32, from_be_bytes}
use Rattle.std.specs.List.{slice_get}
use Rattle.std.specs.Option.{option_map, option_map_or}
use Rattle.std.proofs.lemmas.List.{get_or-map}
use Rattle.std.proofs.lemmas.Option.{unwrap_or-slice_get}
use Rattle.gix_hash_core.specs.Kind.{id_len}
use Rattle.gix_hash_core.specs.declared.kind.Kind.{Kind}
use Rattle.gix_chunk_core.specs.FirstBytes.{filled}
use Rattle.graph_folder.specs.Tree.{Tree}
use Rattle.graph_format.specs.ChunkRanges.{IsChunkRange, chunk_start, size_at}
use Rattle.graph_format.specs.Format.{Record, chunk_of, edges_id, record_of, words}
use Rattle.graph_format.specs.Layer.{Layer, bytes_of, no_record, record_at}
use Rattle.graph_format.specs.Layout.{IsLayout}
use Rattle.graph_format.specs.OptionalChunks.{HasDates, offset_of, offsets_in, overflow_in, times_in}
use Rattle.graph_format.specs.declared.chunks.ChunkRange.{ChunkRange}
use Rattle.graph_format.proofs.LayoutLemmas.{view-edges, view-kind}
use Rattle.graph_format.proofs.PieceLemmas.{length-slice_range, slice_range-slice_range, words-at}
use Rattle.graph_layer.proofs.BucketLemmas.{view-sized_id}
use Rattle.graph_layer.proofs.FileViewLemmas.{commits-ids, commits-records, view-bytes, view-record_at}
use Rattle.graph_layer.proofs.ListedParentLemmas.{length-words}
use Rattle.graph_find.specs.ReadHead.{IsHead}
use Rattle.graph_find.specs.declared.head.Head.{Head}
use Rattle.graph_find.proofs.HeadLemmas.{begins-filled}
use Rattle.graph_parts.specs.Offsets.{date_in_layer, numbers_in_file, words_in_file}
use Rattle.graph_parts.specs.PartFiles.{commits_in, edge_count, edge_words}
use Rattle.graph_parts.specs.ShownLayer.{IsLayerParts, SeesMoreOfLayer, ShowsLayer}
use Rattle.graph_parts.specs.PieceBlocks.{ReadsMore}
use Rattle.graph_parts.specs.declared.layer.LayerParts.{LayerParts}
use Rattle.graph_parts.specs.declared.pieces.Pieces.{Pieces}

-- where the extra edge list lies in a file that begins with a head
edges-in : (head : Head) → IsHead head → IsChunkRange (filled head.front.items head.len) edges_id head.layout.chunks.edges
edges-in head is =
    (is.layout.each (filled head.front.items head.len) (begins-filled head.front.items head.len is.fits)).chunks.edges

length-filled : (head : Head) → IsHead head → length (filled head.front.items head.len) ≡ head.len
length-filled head is = (begins-filled head.front.items head.len is.fits).size

-- a chunk of it lies within the file
pub edges-lie : (head : Head) (chunk : ChunkRange) → IsHead head → head.layout.chunks.edges ≡ Some chunk
    → (chunk.start ≤ chunk.end) × (chunk.end ≤ head.len)
edges-lie head chunk is here =
    let P : Option ChunkRange → Type 0 = λ o. IsChunkRange (filled head.front.items head.len) edges_id o in
    let at = subst P here (edges-in head is) in
    (at.order, omega (arith, at.in_file, length-filled head is))

module _ (known : Option Tree) (part : LayerParts) (layer : Layer) (is : IsLayerParts part)
    (shows : ShowsLayer known part layer) where
  kept : IsLayout shows.of.file part.file.head.layout
  kept = is.head.layout.each shows.of.file shows.of.begins

  pub same-kind : part.file.head.layout.kind ≡ layer.kind
  same-kind =
      view-kind shows.of.file (string_bytes part.file.path) part.file.head.layout layer kept (sym shows.of.decoded)

  pub counted-ids : part.file.head.layout.commits ≡ length layer.ids
  counted-ids =
      commits-ids shows.of.file (string_bytes part.file.path) part.file.head.layout layer kept (sym shows.of.decoded)

  -- the id at a position
  pub shown-id : (pos : ℕ) (bytes : List ℕ) → pos < commits_in part.file
      → bytes ≡ slice_range shows.of.file (part.ids.series.start + part.ids.series.size * pos)
      (part.ids.series.start + part.ids.series.size * pos + part.ids.series.size)
      → slice_get layer.ids pos ≡ Some bytes
  shown-id pos bytes within here =
      let head = part.file.head in
      let size = part.ids.series.size in
      view-sized_id shows.of.file (string_bytes part.file.path) head.layout layer pos size kept (sym shows.of.decoded)
      (omega (arith, within, counted-ids))
      (is.ids.size ∙ ap id_len same-kind)
      ∙ ap (λ (n : ℕ). Some (slice_range shows.of.file (n + size * pos) (n + size * pos + size))) (sym is.ids.start)
      ∙ ap (λ (b : List ℕ). Some b) (sym here)

  -- the record at a position
  pub shown-record : (pos : ℕ) (bytes : List ℕ) → pos < commits_in part.file
      → bytes ≡ slice_range shows.of.file (part.records.series.start + part.records.series.size * pos)
      (part.records.series.start + part.records.series.size * pos + part.records.series.size)
      → record_at layer pos ≡ record_of part.file.head.layout.kind bytes
  shown-record pos bytes within here =
      let head = part.file.head in
      let size = part.records.series.size in
      view-record_at shows.of.file (string_bytes part.file.path) head.layout layer kept (sym shows.of.decoded) pos size
      (omega (arith, within, counted-ids))
      (is.records.size ∙ ap (λ (k : Kind). id_len k + 16) same-kind)
      ∙ ap (λ (k : Kind). record_of k (part_of (head.layout.chunks.records.start + size * pos) size)) (sym same-kind)
      ∙ ap (λ (n : ℕ). record_of head.layout.kind (part_of (n + size * pos) size)) (sym is.records.start)
      ∙ ap (record_of head.layout.kind) (sym here)
    where
      part_of : ℕ → ℕ → List ℕ
      part_of start size = slice_range shows.of.file start (start + size)

  word-of : (chunk : Option ChunkRange) (index : ℕ) → IsChunkRange shows.of.file edges_id chunk
      → index < option_map_or (λ part. size_at part / 4) chunk 0
      → slice_index (option_map_or words (option_map (λ p. slice_range shows.of.file p.start p.end) chunk) []) index
      ≡ from_be_bytes w32 (slice_range shows.of.file (chunk_start chunk + 4 * index) (chunk_start chunk + 4 * index + 4))
  word-of None index lies within = absurd (omega (arith, within))
  word-of (Some chunk) index lies within =
      let long = length-slice_range shows.of.file chunk.start chunk.end lies.in_file in
      words-at (slice_range shows.of.file chunk.start chunk.end) index (omega (arith, long, within))
      ∙ ap (from_be_bytes w32)
      (slice_range-slice_range shows.of.file chunk.start chunk.end (4 * index) (4 * index + 4)
      (omega (arith, within, lies.order)))
      ∙ ap (λ (n : ℕ). from_be_bytes w32 (slice_range shows.of.file (chunk.start + 4 * index) n)) (omega arith)

  words-long : (chunk : Option ChunkRange) → IsChunkRange shows.of.file edges_id chunk
      → length (option_map_or words (option_map (λ p. slice_range shows.of.file p.start p.end) chunk) [])
      ≡ option_map_or (λ part. size_at part / 4) chunk 0
  words-long None lies = refl
  words-long (Some chunk) lies =
      length-words (slice_range shows.of.file chunk.start chunk.end)
      ∙ ap (λ (n : ℕ). n / 4) (length-slice_range shows.of.file chunk.start chunk.end lies.in_file)

  -- how many words it has
  pub shown-words : length (edge_words layer) ≡ edge_count part.file
  shown-words =
      let head = part.file.head in
      let listed : option_map (λ p. slice_range shows.of.file p.start p.end) head.layout.chunks.edges ≡ layer.edges =
      view-edges shows.of.file (string_bytes part.file.path) head.layout layer kept (sym shows.of.decoded) in
      ap (λ (edges : Option (List ℕ)). length (option_map_or words edges [])) (sym listed)
      ∙ words-long head.layout.chunks.edges kept.chunks.edges

  -- the word of an index in the extra edge list
  pub shown-word : (index : ℕ) (bytes : List ℕ) → index < edge_count part.file
      → bytes ≡ slice_range shows.of.file (part.edges.series.start + part.edges.series.size * index)
      (part.edges.series.start + part.edges.series.size * index + part.edges.series.size)
      → slice_index (edge_words layer) index ≡ from_be_bytes w32 (slice_range bytes 0 4)
  shown-word index bytes within here =
      let head = part.file.head in
      let start = chunk_start head.layout.chunks.edges in
      let listed : option_map (λ p. slice_range shows.of.file p.start p.end) head.layout.chunks.edges ≡ layer.edges =
      view-edges shows.of.file (string_bytes part.file.path) head.layout layer kept (sym shows.of.decoded) in
      ap (λ (edges : Option (List ℕ)). slice_index (option_map_or words edges []) index) (sym listed)
      ∙ word-of head.layout.chunks.edges index kept.chunks.edges within
      ∙ ap (from_be_bytes w32)
      (ap (λ (n : ℕ). slice_range shows.of.file n (start + 4 * index + 4)) (omega arith)
      ∙ ap (λ (n : ℕ). slice_range shows.of.file (start + 4 * index + 0) n) (omega arith)
      ∙ sym (slice_range-slice_range shows.of.file (start + 4 * index) (start + 4 * index + 4) 0 4 (omega arith))
      ∙ ap (λ (b : List ℕ). slice_range b 0 4) (sym moved))
    where
      moved : bytes ≡ slice_range shows.of.file (chunk_start part.file.head.layout.chunks.edges + 4 * index)
          (chunk_start part.file.head.layout.chunks.edges + 4 * index + 4)
      moved =
          here
          ∙ ap (λ (n : ℕ). slice_range shows.of.file (part.edges.series.start + n * index)
          (part.edges.series.start + n * index + n))
          is.edges.size
          ∙ ap (λ (n : ℕ). slice_range shows.of.file (n + 4 * index) (n + 4 * index + 4)) is.edges.start

  -- all bytes of the file are those of the layer
  shown-bytes : bytes_of layer ≡ shows.of.file
  shown-bytes =
      view-bytes shows.of.file (string_bytes part.file.path) part.file.head.layout layer kept (sym shows.of.decoded)

  -- it has dates
  pub shown-dates : IsTrue part.offsets.has_words → HasDates layer
  shown-dates has =
      subst (λ (bytes : List ℕ). chunk_of bytes (codes "GDA2") ≢ None) (sym shown-bytes)
      (is.offsets.there has shows.of.file shows.of.begins)

  -- the time at a position
  shown-time : (pos : ℕ) → pos < commits_in part.file → slice_index (times_in layer) pos ≡ (record_at layer pos).time
  unfolding record_at
  shown-time pos within =
      let many =
      commits-records shows.of.file (string_bytes part.file.path) part.file.head.layout layer kept (sym shows.of.decoded) in
      get_or-map (λ (r : Record). r.time) layer.records pos no_record 0 (omega (arith, within, many))
      ∙ ap (λ (r : Record). r.time) (sym (unwrap_or-slice_get layer.records pos no_record))

  -- the date at a position
  pub shown-date : (pos time offset : ℕ) → pos < commits_in part.file → time ≡ (record_at layer pos).time
      → offset_of (words_in_file shows.of.file) (numbers_in_file shows.of.file) pos ≡ Some offset
      → min (time + offset) 18446744073709551615 ≡ date_in_layer layer pos
  shown-date pos time offset within is-time is-offset =
      let here : offset_of (offsets_in layer) (overflow_in layer) pos ≡ Some offset =
      ap (λ (file : List ℕ). offset_of (words_in_file file) (numbers_in_file file) pos) shown-bytes ∙ is-offset in
      ap (λ (n : ℕ). min n 18446744073709551615)
      (ap (λ (n : ℕ). n + offset) (is-time ∙ sym (shown-time pos within))
      ∙ ap (λ (o : Option ℕ). slice_index (times_in layer) pos + unwrap_or o 0) (sym here))

-- what is seen stays seen
pub sees-same : (known : Option Tree) (part : LayerParts) → SeesMoreOfLayer known part part
sees-same known part = record { same = refl; kept = λ layer shows. shows; told = λ tree is layer shows. shows }

pub sees-after : (known : Option Tree) (old new later : LayerParts) → SeesMoreOfLayer known old new
    → SeesMoreOfLayer known new later → SeesMoreOfLayer known old later
sees-after known old new later first second = record {
  same = second.same ∙ first.same;
  kept = λ layer shows. first.kept layer (second.kept layer shows);
  told = λ tree is layer shows. second.told tree is layer (first.told tree is layer shows);
}

-- more blocks of one kind were read
module _ (known : Option Tree) (part : LayerParts) (more : Pieces) where
  pub sees-ids : ReadsMore known (string_bytes part.file.path) part.ids more
      → SeesMoreOfLayer known part (record part { ids = more })
  sees-ids reads = record {
    same = refl;
    kept = λ layer shows. record {
      of = shows.of;
      ids = reads.kept shows.of.file shows.ids;
      records = shows.records;
      edges = shows.edges;
      offsets = shows.offsets;
    };
    told = λ tree is layer shows. record {
      of = shows.of;
      ids = reads.told tree is shows.of.file (shows.of.stands tree is) shows.ids;
      records = shows.records;
      edges = shows.edges;
      offsets = shows.offsets;
    };
  }

  pub parts-ids : ReadsMore known (string_bytes part.file.path) part.ids more → IsLayerParts part
      → IsLayerParts (record part { ids = more })
  parts-ids reads is = record {
    head = is.head;
    ids = rw reads.series is.ids;
    records = is.records;
    edges = is.edges;
    sized_ids = reads.sized;
    sized_records = is.sized_records;
    sized_edges = is.sized_edges;
    offsets = is.offsets;
  }

  pub sees-records : ReadsMore known (string_bytes part.file.path) part.records more
      → SeesMoreOfLayer known part (record part { records = more })
  sees-records reads = record {
    same = refl;
    kept = λ layer shows. record {
      of = shows.of;
      ids = shows.ids;
      records = reads.kept shows.of.file shows.records;
      edges = shows.edges;
      offsets = shows.offsets;
    };
    told = λ tree is layer shows. record {
      of = shows.of;
      ids = shows.ids;
      records = reads.told tree is shows.of.file (shows.of.stands tree is) shows.records;
      edges = shows.edges;
      offsets = shows.offsets;
    };
  }

  pub parts-records : ReadsMore known (string_bytes part.file.path) part.records more → IsLayerParts part
      → IsLayerParts (record part { records = more })
  parts-records reads is = record {
    head = is.head;
    ids = is.ids;
    records = rw reads.series is.records;
    edges = is.edges;
    sized_ids = is.sized_ids;
    sized_records = reads.sized;
    sized_edges = is.sized_edges;
    offsets = is.offsets;
  }

  pub sees-edges : ReadsMore known (string_bytes part.file.path) part.edges more
      → SeesMoreOfLayer known part (record part { edges = more })
  sees-edges reads = record {
    same = refl;
    kept = λ layer shows. record {
      of = shows.of;
      ids = shows.ids;
      records = shows.records;
      edges = reads.kept shows.of.file shows.edges;
      offsets = shows.offsets;
    };
    told = λ tree is layer shows. record {
      of = shows.of;
      ids = shows.ids;
      records = shows.records;
      edges = reads.told tree is shows.of.file (shows.of.stands tree is) shows.edges;
      offsets = shows.offsets;
    };
  }

  pub parts-edges : ReadsMore known (string_bytes part.file.path) part.edges more → IsLayerParts part
      → IsLayerParts (record part { edges = more })
  parts-edges reads is = record {
    head = is.head;
    ids = is.ids;
    records = is.records;
    edges = rw reads.series is.edges;
    sized_ids = is.sized_ids;
    sized_records = is.sized_records;
    sized_edges = reads.sized;
    offsets = is.offsets;
  }
