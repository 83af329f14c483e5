-- laws of the sizes of a file's parts
use Rattle.std.proofs.Common.{◌≡◌, ℕ, ◌-◌, List, Option, Some, None, is_none, slice_index, sym, ap}
use Rattle.gix_chunk_core.specs.Table.{Table, Chunks}
use Rattle.gix_chunk_core.proofs.TableLemmas.{Chunks-is, end_in_file}
use Rattle.graph_format.specs.Format.{table_of}
use Rattle.graph_format.specs.ChunkRanges.{IsChunkAt, IsChunkRange}
use Rattle.graph_format.specs.Refusal.{size_of}
use Rattle.graph_format.specs.declared.chunks.ChunkRange.{ChunkRange}
use Rattle.graph_format.proofs.ChunkLemmas.{size_of-place}

pub table_of-end : (bytes : List ℕ) (table : Table) → Chunks bytes 8 (slice_index bytes 6) table
    → (table_of bytes).end ≡ table.end
unfolding table_of
table_of-end bytes table right = ap (λ (t : Table). t.end) (sym (Chunks-is bytes 8 (slice_index bytes 6) table right))

pub size_of-at : (bytes id : List ℕ) (place : ChunkRange) → IsChunkAt bytes id place
    → size_of bytes id ≡ Some (place.end - place.start)
size_of-at bytes id place h = size_of-place bytes id (Some place) h

pub is_none-place : (bytes id : List ℕ) (place : Option ChunkRange) → IsChunkRange bytes id place
    → is_none (size_of bytes id) ≡ is_none place
is_none-place bytes id None h = ap is_none (size_of-place bytes id None h)
is_none-place bytes id (Some place) h = ap is_none (size_of-place bytes id (Some place) h)

pub ruleset count_laws = (size_of-at, is_none-place)

pub ruleset layout_laws = (table_of-end, end_in_file)
