-- Why bytes have no table of chunks: the first of these conditions that holds. What a table must be is gitformat-chunk,
-- "DESCRIPTION", and gitformat-commit-graph, "CHUNK LOOKUP"; the order of the conditions is this crate's own.
use Rattle.std.specs.Prelude.{ℕ, ◌+◌, ◌-◌, ◌*◌, Bool, not, ◌&&◌, List, length, Option, nat_lt, ◌==◌, bytes_eq}
use Rattle.std.specs.List.{list_any, range_with_len}
use Rattle.gix_chunk_core.specs.Entry.{entry_at, end_id}
use Rattle.gix_chunk_core.specs.FirstFault.{◌when◌, ◌otherwise◌, first_below}
use Rattle.gix_chunk_core.specs.declared.error.ChunkError.{ChunkError}
use Rattle.gix_chunk_core.specs.declared.error.ChunkError.TheVariants.{NoChunks, TableTooSmall, EarlyEnd, Duplicate, OutOfFile}
use Rattle.gix_chunk_core.specs.declared.error.ChunkError.TheVariants.{Falling, NoEnd}

-- an entry before entry i has the same id
unfoldable pub has_earlier : List ℕ → ℕ → ℕ → Bool
has_earlier bytes at i = list_any (λ j. bytes_eq (entry_at bytes at j).id (entry_at bytes at i).id) (range_with_len 0 i)

-- the offset of entry i lies past the end of the bytes
abbrev pub passes : List ℕ → ℕ → ℕ → Bool
passes bytes at i = nat_lt (length bytes) (entry_at bytes at i).offset

-- the offset of entry i is less than that of the entry before it
abbrev pub falls : List ℕ → ℕ → ℕ → Bool
falls bytes at i = nat_lt 0 i && nat_lt (entry_at bytes at i).offset (entry_at bytes at (i - 1)).offset

-- The conditions of an entry's offset.
unfoldable pub offset_fault : List ℕ → ℕ → ℕ → Option ChunkError
offset_fault bytes at i = (OutOfFile i when passes bytes at i) otherwise (Falling i when falls bytes at i)

-- The conditions of a chunk's entry.
unfoldable pub entry_fault : List ℕ → ℕ → ℕ → Option ChunkError
entry_fault bytes at i =
    let entry = entry_at bytes at i in
    (EarlyEnd i when bytes_eq entry.id end_id)
    otherwise (Duplicate entry.id when has_earlier bytes at i)
    otherwise offset_fault bytes at i

-- The conditions of the last entry, which ends the table.
unfoldable pub end_fault : List ℕ → ℕ → ℕ → Option ChunkError
end_fault bytes at i =
    let entry = entry_at bytes at i in
    offset_fault bytes at i
    otherwise (NoEnd entry.id when not (bytes_eq entry.id end_id))

-- The conditions of a table of so many chunks that begins at `at`: its size, then its entries in turn.
unfoldable pub table_fault : List ℕ → ℕ → ℕ → Option ChunkError
table_fault bytes at count =
    (NoChunks when count == 0)
    otherwise (TableTooSmall when nat_lt (length bytes) (at + 12 * (count + 1)))
    otherwise first_below (entry_fault bytes at) count
    otherwise end_fault bytes at count
