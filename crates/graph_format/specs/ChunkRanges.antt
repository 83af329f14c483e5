-- where the chunks of a file lie ("CHUNK LOOKUP")
use Rattle.std.specs.Prelude.{◌≡◌, ℕ, ◌+◌, ◌-◌, ◌*◌, ◌<◌, ◌≤◌, List, length, slice_range, slice_get, Option, Some, None}
use Rattle.graph_format.specs.Format.{chunk_of, chunk_range_of, fan_id, ids_id, records_id, edges_id, bases_id}
use Rattle.graph_format.specs.declared.chunks.ChunkRange.{ChunkRange}
use Rattle.graph_format.specs.declared.chunks.ChunkRanges.{ChunkRanges}

-- The chunk of this name lies here.
pub record IsChunkAt (bytes id : List ℕ) (place : ChunkRange) : Type 0 where
  pub range : chunk_range_of bytes id ≡ Some (place.start, place.end)
  pub chunk : chunk_of bytes id ≡ Some (slice_range bytes place.start place.end)
  pub order : place.start ≤ place.end
  pub in_file : place.end ≤ length bytes

-- the chunk of this name lies here, or is missing
abbrev pub IsChunkRange : List ℕ → List ℕ → Option ChunkRange → Type 0
IsChunkRange bytes id None = chunk_of bytes id ≡ None
IsChunkRange bytes id (Some place) = IsChunkAt bytes id place

-- where a chunk begins, 0 where it is missing
abbrev pub chunk_start : Option ChunkRange → ℕ
chunk_start None = 0
chunk_start (Some place) = place.start

-- how many bytes a place has
abbrev pub size_at : ChunkRange → ℕ
size_at place = place.end - place.start

-- Here lie the chunks.
pub record AreChunkRanges (bytes : List ℕ) (chunks : ChunkRanges) : Type 0 where
  pub fan : IsChunkAt bytes fan_id chunks.fan
  pub ids : IsChunkAt bytes ids_id chunks.ids
  pub records : IsChunkAt bytes records_id chunks.records
  pub edges : IsChunkRange bytes edges_id chunks.edges
  pub bases : IsChunkRange bytes bases_id chunks.bases

-- These are the pieces of so many bytes that lie one after another from here on.
pub record ArePieces (bytes : List ℕ) (start size : ℕ) (parts : List (List ℕ)) : Type 0 where
  pub room : start + size * length parts ≤ length bytes
  pub each : (i : ℕ) → i < length parts
      → slice_get parts i ≡ Some (slice_range bytes (start + size * i) (start + size * i + size))
