-- what the header and the table of chunks say ("HEADER", "CHUNK LOOKUP", "TRAILER")
use Rattle.std.specs.Prelude.{◌≡◌, ◌+◌, ◌≤◌, ℕ, List, length, slice_index, Some}
use Rattle.gix_hash_core.specs.Kind.{kind_of}
use Rattle.graph_format.specs.Format.{kind_in, table_of}
use Rattle.graph_format.specs.ChunkRanges.{AreChunkRanges}
use Rattle.graph_format.specs.Head.{table_end}
use Rattle.graph_format.specs.declared.layout.Outline.{Outline}

-- The bytes have this kind of hash, and their chunks and their checksum lie here. The fan has its size.
pub record IsOutline (bytes : List ℕ) (outline : Outline) : Type 0 where
  pub known : kind_of (slice_index bytes 5) ≡ Some outline.kind
  pub kind : kind_in bytes ≡ outline.kind
  pub table : table_end bytes ≤ length bytes
  pub chunks : AreChunkRanges bytes outline.chunks
  pub fan_size : outline.chunks.fan.end ≡ outline.chunks.fan.start + 1024
  pub trailer_start : outline.trailer_start ≡ (table_of bytes).end
