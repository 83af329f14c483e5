-- laws of the chunks of a file
use Rattle.std.proofs.Common.{◌≡◌, ℕ, List, length, Option, Some, None, option_map, slice_range, slice_index, sym, ap, ◌∙◌}
use Rattle.gix_chunk_core.specs.Table.{Table, Chunks, range_of}
use Rattle.gix_chunk_core.proofs.TableLemmas.{Chunks-is, range_of-in_file}
use Rattle.graph_format.specs.Format.{table_of, chunk_range_of, chunk_of}
use Rattle.graph_format.specs.ChunkRanges.{IsChunkAt, IsChunkRange, size_at}
use Rattle.graph_format.specs.Refusal.{size_of}
use Rattle.graph_format.proofs.PieceLemmas.{length-slice_range}
use Rattle.graph_format.specs.declared.chunks.ChunkRange.{ChunkRange}

chunk_range_of-from : (bytes : List ℕ) (table : Table) (id : List ℕ) → Chunks bytes 8 (slice_index bytes 6) table
    → chunk_range_of bytes id ≡ range_of table id
unfolding chunk_range_of table_of
chunk_range_of-from bytes table id right =
    ap (λ (t : Table). range_of t id) (sym (Chunks-is bytes 8 (slice_index bytes 6) table right))

pub chunk_of-found : (bytes : List ℕ) (table : Table) (id : List ℕ) (start end : ℕ) → Chunks bytes 8 (slice_index bytes 6) table
    → range_of table id ≡ Some (start, end) → IsChunkAt bytes id (record { start = start; end = end })
unfolding chunk_of
chunk_of-found bytes table id start end right found =
    let bounds = range_of-in_file bytes 8 (slice_index bytes 6) table id (start, end) right found in
    record {
      range = chunk_range_of-from bytes table id right ∙ found;
      chunk = ap (option_map (λ (place : ℕ × ℕ). slice_range bytes place.0 place.1)) (chunk_range_of-from bytes table id right
          ∙ found);
      order = bounds.0;
      in_file = bounds.1;
    }

pub chunk_of-missing : (bytes : List ℕ) (table : Table) (id : List ℕ) → Chunks bytes 8 (slice_index bytes 6) table
    → range_of table id ≡ None → chunk_of bytes id ≡ None
unfolding chunk_of
chunk_of-missing bytes table id right missing =
    ap (option_map (λ (place : ℕ × ℕ). slice_range bytes place.0 place.1)) (chunk_range_of-from bytes table id right ∙ missing)

pub ruleset chunk_laws = (chunk_of-found, chunk_of-missing)

pub size_of-place : (bytes id : List ℕ) (place : Option ChunkRange) → IsChunkRange bytes id place
    → size_of bytes id ≡ option_map size_at place
size_of-place bytes id None h = ap (option_map length) h
size_of-place bytes id (Some place) h = ap (option_map length) h.chunk
    ∙ ap (λ (n : ℕ). Some n) (length-slice_range bytes place.start place.end h.in_file)

pub ruleset size_laws = (size_of-place)
