-- what a file's layout is ("HEADER", "CHUNK LOOKUP", "OID Fanout", "TRAILER")
use Rattle.std.specs.Prelude.{◌≡◌, ℕ, List, slice_index, Some, None}
use Rattle.gix_hash_core.specs.Kind.{kind_of}
use Rattle.graph_format.specs.Format.{table_of, fan_of, commits_of}
use Rattle.graph_format.specs.Refusal.{refusal}
use Rattle.graph_format.specs.ChunkRanges.{AreChunkRanges}
use Rattle.graph_format.specs.declared.layout.Layout.{Layout}

-- The bytes are not refused, and have this layout.
pub record IsLayout (bytes : List ℕ) (layout : Layout) : Type 0 where
  pub none : refusal bytes ≡ None
  pub kind : kind_of (slice_index bytes 5) ≡ Some layout.kind
  pub commits : layout.commits ≡ commits_of (fan_of bytes)
  pub base_count : layout.base_count ≡ slice_index bytes 7
  pub chunks : AreChunkRanges bytes layout.chunks
  pub trailer_start : layout.trailer_start ≡ (table_of bytes).end
