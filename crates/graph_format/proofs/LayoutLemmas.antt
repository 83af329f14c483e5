-- what a layout says of the layer that the bytes are
use Rattle.std.proofs.Common.{◌≡◌, ℕ, ◌*◌, ◌≤◌, List, [], map, length, Option, Some, None, option_map, IsSomeAnd, slice_range}
use Rattle.std.proofs.Common.{slice_index, refl, sym, ap, subst, ◌∙◌, arith}
use Rattle.std.proofs.lemmas.Option.{same_Some}
use Rattle.gix_hash_core.specs.declared.kind.Kind.{Kind}
use Rattle.gix_chunk_core.specs.Table.{Chunks}
use Rattle.graph_format.specs.Format.{Record, record_of, record_len, commits_of, table_of, chunk_of, pieces, records_id, edges_id}
use Rattle.graph_format.specs.Layer.{Layer, IsLayer, decoded_layer}
use Rattle.graph_format.specs.Refusal.{refusal}
use Rattle.graph_format.specs.Layout.{IsLayout}
use Rattle.graph_format.specs.ChunkRanges.{IsChunkAt, IsChunkRange}
use Rattle.graph_format.specs.declared.layout.Layout.{Layout}
use Rattle.graph_format.specs.declared.chunks.ChunkRange.{ChunkRange}
use Rattle.graph_format.proofs.AcceptedFileLemmas.{accepted}

-- the layer of bytes that are not refused is theirs
pub is-layer : (bytes path : List ℕ) (layout : Layout) (layer : Layer) → IsLayout bytes layout → decoded_layer bytes path ≡ layer
    → IsLayer bytes path layer
is-layer bytes path layout layer kept view = let P : Layer → Type 0 = λ l. IsLayer bytes path l in
    subst P view (accepted bytes path kept.none)

pub view-kind : (bytes path : List ℕ) (layout : Layout) (layer : Layer) → IsLayout bytes layout → decoded_layer bytes path ≡ layer
    → layout.kind ≡ layer.kind
view-kind bytes path layout layer kept view = same_Some _ _ (sym kept.kind ∙ (is-layer bytes path layout layer kept view).kind)

-- the records are those of their chunk
chunk-records : (kind : Kind) (bytes : List ℕ) (place : ChunkRange) (commits : ℕ) (records : List Record)
    → IsChunkAt bytes records_id place
    → IsSomeAnd (chunk_of bytes records_id) (λ chunk. (length chunk ≡ record_len kind * commits)
    × (records ≡ map (record_of kind) (pieces (record_len kind) chunk)))
    → records ≡ map (record_of kind) (pieces (record_len kind) (slice_range bytes place.start place.end))
chunk-records kind bytes place commits records at h = (rw at.chunk at h).1

pub view-decoded : (bytes path : List ℕ) (layout : Layout) → IsLayout bytes layout
    → map (record_of layout.kind)
    (pieces (record_len layout.kind) (slice_range bytes layout.chunks.records.start layout.chunks.records.end))
    ≡ (decoded_layer bytes path).records
view-decoded bytes path layout kept =
    let layer = decoded_layer bytes path in
    let is = is-layer bytes path layout layer kept refl in
    let chunk = slice_range bytes layout.chunks.records.start layout.chunks.records.end in
    ap (λ (kind : Kind). map (record_of kind) (pieces (record_len kind) chunk)) (view-kind bytes path layout layer kept refl)
    ∙ sym (chunk-records layer.kind bytes layout.chunks.records (commits_of layer.fan) layer.records kept.chunks.records
    is.records)

edges-lie : (bytes : List ℕ) (place : Option ChunkRange) → IsChunkRange bytes edges_id place
    → option_map (λ p. slice_range bytes p.start p.end) place ≡ chunk_of bytes edges_id
edges-lie bytes None h = sym h
edges-lie bytes (Some place) h = sym h.chunk

pub view-edges : (bytes path : List ℕ) (layout : Layout) (layer : Layer) → IsLayout bytes layout
    → decoded_layer bytes path ≡ layer → option_map (λ p. slice_range bytes p.start p.end) layout.chunks.edges ≡ layer.edges
view-edges bytes path layout layer kept view = edges-lie bytes layout.chunks.edges kept.chunks.edges
    ∙ sym (is-layer bytes path layout layer kept view).edges

pub ruleset decoded_laws = (view-decoded, view-edges)

-- the table of chunks of bytes that are not refused
pub table-stands : (bytes : List ℕ) → refusal bytes ≡ None → Chunks bytes 8 (slice_index bytes 6) (table_of bytes)
table-stands bytes none = (accepted bytes [] none).table

pub header-stands : (bytes : List ℕ) → refusal bytes ≡ None → 8 ≤ length bytes
header-stands bytes none = omega (arith, (accepted bytes [] none).size)

pub ruleset table_laws = (table-stands, header-stands)
