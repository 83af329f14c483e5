-- The table of chunks (gitformat-chunk, "DESCRIPTION"; gitformat-commit-graph, "CHUNK LOOKUP").
use Rattle.std.specs.Prelude.{◌≡◌, ◌≢◌, ◌<◌, ◌≤◌, ℕ, ◌+◌, ◌*◌, List, map, length, slice_get, Option, Some, option_map, bytes_eq}
use Rattle.std.specs.Prelude.{find}
use Rattle.std.specs.List.{range_with_len}
use Rattle.gix_chunk_core.specs.Entry.{entry_at, end_id}

-- A chunk, and the part of the file that it has: from its start up to but not including its end.
pub record Chunk : Type 0 where
  pub id : List ℕ
  pub start : ℕ
  pub end : ℕ

-- The chunks in the table's order, and where what follows them begins.
pub record Table : Type 0 where
  pub chunks : List Chunk
  pub end : ℕ

-- chunk i: it begins at its entry's offset, and ends at the next entry's
abbrev pub chunk_at : List ℕ → ℕ → ℕ → Chunk
chunk_at bytes at i =
    record { id = (entry_at bytes at i).id; start = (entry_at bytes at i).offset; end = (entry_at bytes at (i + 1)).offset }

-- The bytes have a table of so many chunks that begins at `at`, and this is the table.
pub record Chunks (bytes : List ℕ) (at count : ℕ) (table : Table) : Type 0 where
  -- there is a chunk; an entry for each chunk, and one more, stand in the bytes
  pub some : 0 < count
  pub room : at + 12 * (count + 1) ≤ length bytes
  -- the chunks' ids differ from one another and from 0, and the last entry's id is 0
  pub named : (i : ℕ) → i < count → (entry_at bytes at i).id ≢ end_id
  pub distinct : (i j : ℕ) → i < j → j < count → (entry_at bytes at i).id ≢ (entry_at bytes at j).id
  pub ended : (entry_at bytes at count).id ≡ end_id
  -- no offset is less than the one before it, or lies past the end of the bytes
  pub rising : (i : ℕ) → i < count → (entry_at bytes at i).offset ≤ (entry_at bytes at (i + 1)).offset
  pub in_file : (i : ℕ) → i ≤ count → (entry_at bytes at i).offset ≤ length bytes
  -- the table has these chunks, and its end is the last entry's offset
  pub counted : length table.chunks ≡ count
  pub each : (i : ℕ) → i < count → slice_get table.chunks i ≡ Some (chunk_at bytes at i)
  pub end : table.end ≡ (entry_at bytes at count).offset

-- the table that the entries spell
unfoldable pub table_at : List ℕ → ℕ → ℕ → Table
table_at bytes at count =
    record { chunks = map (chunk_at bytes at) (range_with_len 0 count); end = (entry_at bytes at count).offset }

-- where the first chunk with this id starts and ends
unfoldable pub range_of : Table → List ℕ → Option (ℕ × ℕ)
range_of table id = option_map (λ chunk. (chunk.start, chunk.end)) (find (λ chunk. bytes_eq chunk.id id) table.chunks)
