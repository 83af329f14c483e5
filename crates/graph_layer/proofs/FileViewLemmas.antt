-- what an opened file's fields say of its layer
use Rattle.std.proofs.Common.{◌≡◌, ℕ, ◌+◌, ◌-◌, ◌*◌, ◌<◌, ◌≤◌, List, [], map, length, drop, Option, Some, None}
use Rattle.std.proofs.Common.{option_map, IsSomeAnd, MatchOption, slice_range, slice_get, slice_index, sym, ap, subst, ◌∙◌}
use Rattle.std.proofs.Common.{arith, length-drop}
use Rattle.std.proofs.lemmas.List.{length-map, take_rest, take-append-drop}
use Rattle.std.proofs.lemmas.Nat.{row_fits_turned}
use Rattle.std.proofs.Math.Nat.{mul_comm}
use Rattle.std.proofs.lemmas.Option.{same_Some, slice_get-map}
use Rattle.gix_hash_core.specs.declared.kind.Kind.{Kind}
use Rattle.gix_hash_core.specs.Kind.{id_len}
use Rattle.graph_format.specs.Format.{Record, record_of, record_len, part, commits_of, table_of, chunk_of, pieces, ids_id}
use Rattle.graph_format.specs.Format.{records_id, bases_id}
use Rattle.graph_format.specs.Layer.{Layer, IsLayer, decoded_layer, record_at, bytes_of}
use Rattle.graph_format.specs.Layout.{IsLayout}
use Rattle.graph_format.specs.ChunkRanges.{chunk_start, IsChunkAt, IsChunkRange, ArePieces}
use Rattle.graph_format.specs.declared.layout.Layout.{Layout}
use Rattle.graph_format.specs.declared.chunks.ChunkRange.{ChunkRange}
use Rattle.graph_format.proofs.LayerHistoryLemmas.{record_at-is}
use Rattle.graph_format.proofs.LayoutLemmas.{is-layer, view-kind, view-edges}
use Rattle.graph_format.proofs.PieceLemmas.{length-slice_range, slice_range-slice_range, pieces-at, length-pieces}
use Rattle.graph_format.proofs.PieceLemmas.{length-pieces_of, id_len-positive}

-- a part of a file that is so many pieces
pieces-lie : (bytes : List ℕ) (start end size count : ℕ) → end ≤ length bytes → end - start ≡ size * count → start ≤ end
    → 0 < size → ArePieces bytes start size (pieces size (slice_range bytes start end))
pieces-lie bytes start end size count in_file long order positive =
    let part = slice_range bytes start end in
    let width : length part ≡ end - start = length-slice_range bytes start end in_file in
    let number : length (pieces size part) ≡ count = length-pieces_of size count part positive (width ∙ long) in
    record {
      room = rw number (omega (arith, in_file, long, order));
      each = λ i k.
          let below : i < count = omega (arith, number, k) in
          let fits : size * i + size ≤ size * count =
          omega (arith, row_fits_turned i size size count below (omega arith), mul_comm size i) in
          pieces-at size part i (rw (← length-pieces size part) k)
          ∙ ap (λ (p : List ℕ). Some p)
          (slice_range-slice_range bytes start end (size * i) (size * i + size) (omega (arith, fits, long, order)))
          ∙ ap (λ (n : ℕ). Some (slice_range bytes (start + size * i) n)) (omega arith);
    }

-- a piece of those that lie from here on
piece-fits : (bytes : List ℕ) (start size : ℕ) (parts : List (List ℕ)) (i : ℕ) → ArePieces bytes start size parts
    → i < length parts → start + size * i + size ≤ length bytes
piece-fits bytes start size parts i lie k =
    omega (arith, lie.room, row_fits_turned i size size (length parts) k (omega arith), mul_comm size i)

-- the ids, the records and the base ids of a chunk
ids-lie : (kind : Kind) (count : ℕ) (bytes id : List ℕ) (place : ChunkRange) (ids : List (List ℕ)) → IsChunkAt bytes id place
    → IsSomeAnd (chunk_of bytes id) (λ chunk. (length chunk ≡ id_len kind * count) × (ids ≡ pieces (id_len kind) chunk))
    → (length ids ≡ count) × ArePieces bytes place.start (id_len kind) ids
ids-lie kind count bytes id place ids at h =
    let is = rw at.chunk at h in
    let some = id_len-positive kind in
    let long : place.end - place.start ≡ id_len kind * count = sym (length-slice_range bytes place.start place.end at.in_file)
    ∙ is.0 in (
      ap length is.1 ∙ length-pieces_of (id_len kind) count _ some is.0,
      rw is.1 (pieces-lie bytes place.start place.end (id_len kind) count at.in_file long at.order some),
    )

records-lie : (kind : Kind) (count : ℕ) (bytes : List ℕ) (place : ChunkRange) (records : List Record)
    → IsChunkAt bytes records_id place
    → IsSomeAnd (chunk_of bytes records_id) (λ chunk. (length chunk ≡ record_len kind * count)
    × (records ≡ map (record_of kind) (pieces (record_len kind) chunk))) → (length records ≡ count)
    × ((parts : List (List ℕ)) × ArePieces bytes place.start (record_len kind) parts × (records ≡ map (record_of kind) parts))
records-lie kind count bytes place records at h =
    let is = rw at.chunk at h in
    let some : 0 < record_len kind = omega (arith, id_len-positive kind) in
    let parts = pieces (record_len kind) (slice_range bytes place.start place.end) in
    let long : place.end - place.start ≡ record_len kind * count =
    sym (length-slice_range bytes place.start place.end at.in_file) ∙ is.0 in (
      ap length is.1 ∙ length-map parts (record_of kind) ∙ length-pieces_of (record_len kind) count _ some is.0,
      (parts, pieces-lie bytes place.start place.end (record_len kind) count at.in_file long at.order some, is.1),
    )

bases-lie : (kind : Kind) (count : ℕ) (bytes : List ℕ) (place : Option ChunkRange) (bases : List (List ℕ))
    → IsChunkRange bytes bases_id place
    → MatchOption (chunk_of bytes bases_id) ((count ≡ 0) × (bases ≡ [])) (λ chunk. (length chunk ≡ id_len kind * count)
    × (bases ≡ pieces (id_len kind) chunk)) → (length bases ≡ count) × ArePieces bytes (chunk_start place) (id_len kind) bases
bases-lie kind count bytes None bases at h =
    let is = rw at at h in
    let none : length bases ≡ 0 = ap length is.1 in (
      none ∙ sym is.0,
      record {
        room = rw none (rw (mul_comm (id_len kind) 0) (omega arith));
        each = λ i k.
            absurd (omega (arith, none, k));
      },
    )
bases-lie kind count bytes (Some place) bases at h =
    let is = rw at.chunk at h in ids-lie kind count bytes bases_id place bases at (rw at.chunk is)

-- a record begins with the id of its root tree
tree-of : (kind : Kind) (bytes : List ℕ) (start size : ℕ) → size ≡ id_len kind + 16
    → (record_of kind (part bytes start size)).tree ≡ slice_range bytes start (start + id_len kind)
unfolding record_of
tree-of kind bytes start size e =
    slice_range-slice_range bytes start (start + size) 0 (0 + id_len kind) (omega (arith, e))
    ∙ ap (λ (n : ℕ). slice_range bytes n (start + (0 + id_len kind))) (omega arith)
    ∙ ap (λ (n : ℕ). slice_range bytes start n) (omega arith)

-- a file with this layout, and its layer
module _ (bytes path : List ℕ) (layout : Layout) (layer : Layer) (kept : IsLayout bytes layout)
    (view : decoded_layer bytes path ≡ layer) where
  read : IsLayer bytes path layer
  read = is-layer bytes path layout layer kept view

  pub view-path : path ≡ layer.path
  view-path = sym read.origin

  pub commits-fan : layout.commits ≡ commits_of layer.fan
  unfolding decoded_layer
  commits-fan = kept.commits ∙ ap (λ (l : Layer). commits_of l.fan) view

  -- the ids
  ids : (length layer.ids ≡ commits_of layer.fan) × ArePieces bytes layout.chunks.ids.start (id_len layer.kind) layer.ids
  ids = ids-lie layer.kind (commits_of layer.fan) bytes ids_id layout.chunks.ids layer.ids kept.chunks.ids read.ids

  pub commits-ids : layout.commits ≡ length layer.ids
  commits-ids = commits-fan ∙ sym ids.0

  pub view-id : (i : ℕ) → i < length layer.ids
      → slice_get layer.ids i
      ≡ Some (slice_range bytes (layout.chunks.ids.start + id_len layer.kind * i)
      (layout.chunks.ids.start + id_len layer.kind * i + id_len layer.kind))
  view-id i k = ids.1.each i k

  pub view-id-fits : (i : ℕ) → i < length layer.ids
      → layout.chunks.ids.start + id_len layer.kind * i + id_len layer.kind ≤ length bytes
  view-id-fits i k = piece-fits bytes _ _ layer.ids i ids.1 k

  -- the checksum is what follows the last chunk
  checksum-ends : layout.trailer_start + id_len layer.kind ≡ length bytes
  checksum-ends =
      let rest : length bytes - layout.trailer_start ≡ id_len layer.kind =
      rw kept.trailer_start (sym (length-drop (table_of bytes).end bytes) ∙ ap length (sym read.checksum) ∙ read.whole) in
      omega (arith, rest, id_len-positive layer.kind)

  pub view-checksum-in_file : layout.trailer_start + id_len layer.kind ≤ length bytes
  view-checksum-in_file = omega (arith, checksum-ends)

  pub view-checksum : slice_range bytes layout.trailer_start (layout.trailer_start + id_len layer.kind) ≡ layer.checksum
  view-checksum =
      ap (λ (n : ℕ). slice_range bytes layout.trailer_start n) checksum-ends
      ∙ take_rest bytes layout.trailer_start
      ∙ ap (λ (n : ℕ). drop n bytes) kept.trailer_start
      ∙ sym read.checksum

  -- the records
  records : (length layer.records ≡ commits_of layer.fan)
      × ((parts : List (List ℕ)) × ArePieces bytes layout.chunks.records.start (record_len layer.kind) parts
      × (layer.records ≡ map (record_of layer.kind) parts))
  records =
      records-lie layer.kind (commits_of layer.fan) bytes layout.chunks.records layer.records kept.chunks.records read.records

  pub commits-records : layout.commits ≡ length layer.records
  commits-records = commits-fan ∙ sym records.0

  -- there are as many as ids
  pub records-ids : length layer.records ≡ length layer.ids
  records-ids = sym commits-records ∙ commits-ids

  -- the record at a position, and that it lies in the file
  record-both : (i : ℕ) → i < length layer.ids
      → (slice_get layer.records i
      ≡ Some (record_of layer.kind
      (part bytes (layout.chunks.records.start + record_len layer.kind * i) (record_len layer.kind))))
      × (layout.chunks.records.start + record_len layer.kind * i + record_len layer.kind ≤ length bytes)
  record-both i k =
      let parts = records.1.0 in
      let same : length parts ≡ length layer.records = sym (ap length records.1.2 ∙ length-map parts (record_of layer.kind)) in
      let below : i < length parts = omega (arith, k, same, records-ids) in (
        ap (λ (rs : List Record). slice_get rs i) records.1.2 ∙ slice_get-map (record_of layer.kind) parts i
            ∙ ap (option_map (record_of layer.kind)) (records.1.1.each i below),
        piece-fits bytes _ _ parts i records.1.1 below,
      )

  pub view-record : (i : ℕ) → i < length layer.ids
      → slice_get layer.records i
      ≡ Some (record_of layer.kind
      (part bytes (layout.chunks.records.start + (id_len layer.kind + 16) * i) (id_len layer.kind + 16)))
  view-record i k = (record-both i k).0

  pub view-record-fits : (i : ℕ) → i < length layer.ids
      → layout.chunks.records.start + (id_len layer.kind + 16) * i + (id_len layer.kind + 16) ≤ length bytes
  view-record-fits i k = (record-both i k).1

  pub view-record_at : (i size : ℕ) → i < length layer.ids → size ≡ id_len layer.kind + 16
      → record_at layer i ≡ record_of layer.kind (part bytes (layout.chunks.records.start + size * i) size)
  view-record_at i size k e =
      same_Some _ _ (sym (record_at-is layer i (omega (arith, k, records-ids))) ∙ view-record i k)
      ∙ ap (λ (n : ℕ). record_of layer.kind (part bytes (layout.chunks.records.start + n * i) n)) (sym e)

  pub view-tree : (i size n : ℕ) → i < length layer.ids → size ≡ id_len layer.kind + 16 → n ≡ id_len layer.kind
      → slice_range bytes (layout.chunks.records.start + size * i) (layout.chunks.records.start + size * i + n)
      ≡ (record_at layer i).tree
  view-tree i size n k e is =
      ap (λ (m : ℕ). slice_range bytes (layout.chunks.records.start + size * i) (layout.chunks.records.start + size * i + m)) is
      ∙ sym (tree-of layer.kind bytes (layout.chunks.records.start + size * i) size e)
      ∙ sym (ap (λ (r : Record). r.tree) (view-record_at i size k e))

  pub view-tree-fits : (i size n : ℕ) → i < length layer.ids → size ≡ id_len layer.kind + 16 → n ≡ id_len layer.kind
      → layout.chunks.records.start + size * i + n ≤ length bytes
  view-tree-fits i size n k e is =
      let fits = view-record-fits i k in
      let same : size * i ≡ (id_len layer.kind + 16) * i = ap (λ (m : ℕ). m * i) e in
      omega (arith, fits, same, is)

  -- the base ids
  bases : (length layer.bases ≡ slice_index bytes 7)
      × ArePieces bytes (chunk_start layout.chunks.bases) (id_len layer.kind) layer.bases
  bases = bases-lie layer.kind _ bytes layout.chunks.bases layer.bases kept.chunks.bases read.bases

  pub base_count-bases : layout.base_count ≡ length layer.bases
  base_count-bases = kept.base_count ∙ sym bases.0

  pub view-base : (i : ℕ) → i < length layer.bases
      → slice_get layer.bases i
      ≡ Some (slice_range bytes (chunk_start layout.chunks.bases + id_len layer.kind * i)
      (chunk_start layout.chunks.bases + id_len layer.kind * i + id_len layer.kind))
  view-base i k = bases.1.each i k

  pub view-base-fits : (i : ℕ) → i < length layer.bases
      → chunk_start layout.chunks.bases + id_len layer.kind * i + id_len layer.kind ≤ length bytes
  view-base-fits i k = piece-fits bytes _ _ layer.bases i bases.1 k

  -- the body and the checksum are all of the bytes
  pub view-bytes : bytes_of layer ≡ bytes
  view-bytes = rw (read.body, read.checksum) (take-append-drop (table_of bytes).end bytes)

  pub base_count-byte : layout.base_count ≡ slice_index (bytes_of layer) 7
  base_count-byte = kept.base_count ∙ ap (λ (b : List ℕ). slice_index b 7) (sym view-bytes)

  -- the layer of an opened file is that of its bytes and its path
  pub view-layer : IsLayer (bytes_of layer) layer.path layer
  view-layer =
      let P : List ℕ → Type 0 = λ b. IsLayer b layer.path layer in
      let Q : List ℕ → Type 0 = λ p. IsLayer bytes p layer in
      subst P (sym view-bytes) (subst Q view-path read)

pub ruleset view_laws = (
  view-layer,
  view-checksum,
  view-checksum-in_file,
  view-bytes,
  base_count-bases,
  base_count-byte,
  commits-fan,
  view-base,
  view-base-fits,
  view-edges,
  view-kind,
  view-path,
  commits-ids,
  view-id,
  view-id-fits,
  commits-records,
  records-ids,
  length-map,
  view-record,
  view-record-fits,
  view-tree,
  view-tree-fits,
)
