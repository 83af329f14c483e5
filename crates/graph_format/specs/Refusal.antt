-- Why bytes are no layer: the first condition that holds; their order is this crate's own. (Git's commit-graph
-- format, "HEADER", "CHUNK LOOKUP", "CHUNK DATA" and "TRAILER".)
use Rattle.std.specs.Prelude.{ℕ, ◌+◌, ◌-◌, ◌/◌, ◌%◌, Bool, false, not, ◌&&◌, List, length, take, slice_index, Option, Some, None}
use Rattle.std.specs.Prelude.{option_map, is_none, nat_lt, ◌==◌, bytes_eq}
use Rattle.gix_chunk_core.specs.FirstFault.{◌when◌, ◌otherwise◌, first_below}
use Rattle.gix_chunk_core.specs.Fault.{table_fault}
use Rattle.gix_hash_core.specs.Kind.{id_len, kind_of}
use Rattle.graph_format.specs.Format.{record_len, signature, least_size, table_of, chunk_of, fan_of, commits_of, kind_in, fan_id}
use Rattle.graph_format.specs.Format.{ids_id, records_id, edges_id, bases_id}
use Rattle.graph_format.specs.declared.error.FileError.{FileError}
use Rattle.graph_format.specs.declared.error.FileError.TheVariants.{TooSmall, Signature, Version, Hash, Chunks, BaseSize}
use Rattle.graph_format.specs.declared.error.FileError.TheVariants.{BaseCount, NoCommitData, CommitDataSize, NoFan, FanSize}
use Rattle.graph_format.specs.declared.error.FileError.TheVariants.{NoIds, IdsSize, TooManyEdges, Trailer, BaseMissing, FanFalls}
use Rattle.graph_format.specs.declared.error.FileError.TheVariants.{IdCount, RecordCount}

-- the size of a chunk, none where the chunk is missing
abbrev pub size_of : List ℕ → List ℕ → Option ℕ
size_of bytes id = option_map length (chunk_of bytes id)

-- the chunk is there, and has another size
abbrev pub has_other_size : ℕ → Option ℕ → Bool
has_other_size size None = false
has_other_size size (Some n) = not (n == size)

-- the chunk is there, and ends within a piece of this size
abbrev pub is_cut : ℕ → Option ℕ → Bool
is_cut piece None = false
is_cut piece (Some n) = not (n % piece == 0)

-- the chunk is there, and has another number of whole pieces of this size
abbrev pub has_other_count : ℕ → ℕ → Option ℕ → Bool
has_other_count count piece None = false
has_other_count count piece (Some n) = not (n / piece == count)

-- the chunk is there, and has more whole pieces of this size
abbrev pub has_more : ℕ → ℕ → Option ℕ → Bool
has_more count piece None = false
has_more count piece (Some n) = nat_lt count (n / piece)

-- the first entry of the fan that is less than the one before it
abbrev pub fall_after : List ℕ → ℕ → Option FileError
fall_after fan i = FanFalls (i + 1) when nat_lt (slice_index fan (i + 1)) (slice_index fan i)

unfoldable pub falling_refusal : List ℕ → Option FileError
falling_refusal fan = first_below (fall_after fan) 255

-- the first condition that refuses the bytes, none where they are a file of a layer
unfoldable pub refusal : List ℕ → Option FileError
refusal bytes =
    let kind = kind_in bytes in
    let commits = commits_of (fan_of bytes) in
    TooSmall when nat_lt (length bytes) least_size
    otherwise Signature when not (bytes_eq (take 4 bytes) signature)
    otherwise Version (slice_index bytes 4) when not (slice_index bytes 4 == 1)
    otherwise Hash (slice_index bytes 5) when is_none (kind_of (slice_index bytes 5))
    otherwise option_map Chunks (table_fault bytes 8 (slice_index bytes 6))
    otherwise BaseSize when is_cut (id_len kind) (size_of bytes bases_id)
    otherwise BaseCount when has_other_count (slice_index bytes 7) (id_len kind) (size_of bytes bases_id)
    otherwise NoCommitData when is_none (size_of bytes records_id)
    otherwise CommitDataSize when is_cut (record_len kind) (size_of bytes records_id)
    otherwise NoFan when is_none (size_of bytes fan_id)
    otherwise FanSize when has_other_size 1024 (size_of bytes fan_id)
    otherwise NoIds when is_none (size_of bytes ids_id)
    otherwise IdsSize when is_cut (id_len kind) (size_of bytes ids_id)
    otherwise TooManyEdges when has_more 4294967294 4 (size_of bytes edges_id)
    otherwise Trailer when not (length bytes - (table_of bytes).end == id_len kind)
    otherwise BaseMissing when (nat_lt 0 (slice_index bytes 7) && is_none (size_of bytes bases_id))
    otherwise falling_refusal (fan_of bytes)
    otherwise IdCount when has_other_count commits (id_len kind) (size_of bytes ids_id)
    otherwise RecordCount when has_other_count commits (record_len kind) (size_of bytes records_id)
