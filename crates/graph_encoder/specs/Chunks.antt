-- Chunks as a file holds them. (gitformat-chunk, "DESCRIPTION".)
use Rattle.std.specs.Prelude.{ℕ, ◌+◌, ◌*◌, List, [], ◌∷◌, ◌++◌, length, Option, Some, None, option_map}
use Rattle.std.specs.Int.{w32, w64, to_be_bytes}
use Rattle.std.specs.List.{flat_map, filter_map}
use Rattle.gix_chunk_core.specs.Entry.{end_id}

-- a number of four bytes, and one of eight
unfoldable pub word_bytes : ℕ → List ℕ
word_bytes number = to_be_bytes w32 number

unfoldable pub long_bytes : ℕ → List ℕ
long_bytes number = to_be_bytes w64 number

-- A chunk's name, and its bytes.
pub record NamedChunk : Type 0 where
  pub id : List ℕ
  pub bytes : List ℕ

-- A chunk that a file may have: its name, and its bytes, which are none where the file does not have it.
pub record PossibleChunk : Type 0 where
  pub id : List ℕ
  pub bytes : Option (List ℕ)

-- the bytes of a chunk that is left out where it would have none
abbrev pub unless_empty : List ℕ → Option (List ℕ)
unless_empty [] = None
unless_empty (byte ∷ bytes) = Some (byte ∷ bytes)

-- a chunk, if a file has it
abbrev pub if_there : PossibleChunk → Option NamedChunk
if_there chunk = option_map (λ bytes. record { id = chunk.id; bytes = bytes }) chunk.bytes

-- the chunks that a file has
abbrev pub those_there : List PossibleChunk → List NamedChunk
those_there chunks = filter_map if_there chunks

-- the bytes of chunks, one after another
unfoldable pub chunk_bytes : List NamedChunk → List ℕ
chunk_bytes chunks = flat_map (λ c. c.bytes) chunks

-- The table of chunks that lie one after another from an offset on: the name and the offset of each, and an end.
abbrev pub table_from : ℕ → List NamedChunk → List ℕ
table_from offset [] = end_id ++ long_bytes offset
table_from offset (chunk ∷ chunks) = chunk.id ++ (long_bytes offset ++ table_from (offset + length chunk.bytes) chunks)

-- how many bytes a table of so many chunks has
abbrev pub table_len : ℕ → ℕ
table_len count = 12 * (count + 1)

-- bytes, the table of chunks that follow it, and these chunks
unfoldable pub with_chunks : List ℕ → List NamedChunk → List ℕ
with_chunks front chunks =
    front ++ (table_from (length front + table_len (length chunks)) chunks ++ chunk_bytes chunks)
