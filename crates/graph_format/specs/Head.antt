-- the head of a file: all that opening asks of it before it reads ids and records
use Rattle.std.specs.Prelude.{◌≡◌, ◌≤◌, ℕ, ◌+◌, ◌*◌, List, length, take, slice_index}
pub use Rattle.gix_chunk_core.specs.FirstBytes.{BeginsWith}
use Rattle.graph_format.specs.Format.{fan_of}
use Rattle.graph_format.specs.Layout.{IsLayout}
use Rattle.graph_format.specs.declared.layout.Layout.{Layout}

-- how many bytes the header and the table of chunks have, of which the header's byte 6 counts the chunks ("HEADER", "CHUNK
-- LOOKUP")
abbrev pub table_end : List ℕ → ℕ
table_end bytes = 8 + 12 * (slice_index bytes 6 + 1)

-- Two files have the same size, header, table of chunks and fan.
pub record HaveSameHead (bytes other : List ℕ) : Type 0 where
  pub size : length bytes ≡ length other
  pub front : take (table_end bytes) bytes ≡ take (table_end bytes) other
  pub fan : fan_of bytes ≡ fan_of other

-- The layout is that of each file that has so many bytes and begins with these, and its fan lies within these.
pub record IsLayoutOfHead (front : List ℕ) (len : ℕ) (layout : Layout) : Type 0 where
  pub each : (file : List ℕ) → BeginsWith file front len → IsLayout file layout
  pub fan_lies : layout.chunks.fan.end ≤ length front
