-- How many bytes the chunks of a plan's file have; for private contracts alone.
use Rattle.std.specs.Prelude.{ℕ, ◌+◌, ◌++◌, List, [], ◌∷◌, length, map, sum_by, Option, Some, None, option_map, unwrap_or}
use Rattle.std.specs.Prelude.{is_some, count_by, nat_lt, if◌then◌else◌}
use Rattle.gix_chunk_core.specs.Entry.{end_id}
use Rattle.graph_encoder.specs.Chunks.{PossibleChunk, long_bytes}
use Rattle.graph_encoder.specs.Written.{possible_chunks}
use Rattle.graph_encoder.specs.declared.plan.FilePlan.{FilePlan}
use Rattle.graph_encoder.specs.declared.sizes.ChunkSize.{ChunkSize}

-- the size of a chunk, if it is there
abbrev pub size_if_there : PossibleChunk → ChunkSize
size_if_there chunk = record { id = chunk.id; size = option_map length chunk.bytes }

-- the sizes of all chunks that the file of a plan may have
abbrev pub sizes_of : FilePlan → List ChunkSize
sizes_of plan = map size_if_there (possible_chunks plan)

-- a size, which is missing where there are no bytes
abbrev pub unless_zero : ℕ → Option ℕ
unless_zero size = if nat_lt 0 size then Some size else None

-- how many bytes a chunk takes
abbrev pub bytes_in : ChunkSize → ℕ
bytes_in chunk = unwrap_or chunk.size 0

-- how many of the chunks are there
abbrev pub number_there : List ChunkSize → ℕ
number_there chunks = count_by (λ chunk. is_some chunk.size) chunks

-- how many bytes they have together
abbrev pub total_size : List ChunkSize → ℕ
total_size chunks = sum_by bytes_in chunks

-- the table's entry of a chunk that lies at an offset, if it is there
abbrev pub entry_bytes : List ℕ → Option ℕ → ℕ → List ℕ
entry_bytes id None offset = []
entry_bytes id (Some size) offset = id ++ long_bytes offset

-- the table of chunks of these sizes that lie one after another from an offset on
abbrev pub table_by_sizes : ℕ → List ChunkSize → List ℕ
table_by_sizes offset [] = end_id ++ long_bytes offset
table_by_sizes offset (chunk ∷ chunks) =
    entry_bytes chunk.id chunk.size offset ++ table_by_sizes (offset + bytes_in chunk) chunks
