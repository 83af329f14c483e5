-- The conditions of `refusal` in groups, one for each function that tests them. Private contracts alone cite these; the list in
-- `Refusal` is what the groups say, in their order.
use Rattle.std.specs.Prelude.{ℕ, ◌-◌, not, ◌&&◌, List, length, take, slice_index, Option, option_map, is_none, nat_lt, ◌==◌}
use Rattle.std.specs.Prelude.{bytes_eq}
use Rattle.gix_chunk_core.specs.FirstFault.{◌when◌, ◌otherwise◌}
use Rattle.gix_chunk_core.specs.Fault.{table_fault}
use Rattle.gix_hash_core.specs.declared.kind.Kind.{Kind}
use Rattle.gix_hash_core.specs.Kind.{id_len, kind_of}
use Rattle.graph_format.specs.Format.{record_len, signature, least_size, table_of, fan_of, commits_of, kind_in}
use Rattle.graph_format.specs.Format.{fan_id, ids_id, records_id, edges_id, bases_id}
use Rattle.graph_format.specs.Refusal.{size_of, has_other_size, is_cut, has_other_count, has_more, falling_refusal}
use Rattle.graph_format.specs.declared.error.FileError.{FileError}
use Rattle.graph_format.specs.declared.error.FileError.TheVariants.{TooSmall, Signature, Version, Hash, Chunks, BaseSize}
use Rattle.graph_format.specs.declared.error.FileError.TheVariants.{BaseCount, NoCommitData, CommitDataSize, NoFan, FanSize}
use Rattle.graph_format.specs.declared.error.FileError.TheVariants.{NoIds, IdsSize, TooManyEdges, Trailer, BaseMissing}
use Rattle.graph_format.specs.declared.error.FileError.TheVariants.{IdCount, RecordCount}

-- "HEADER"
unfoldable pub header_refusal : List ℕ → Option FileError
header_refusal bytes =
    TooSmall when nat_lt (length bytes) least_size
    otherwise Signature when not (bytes_eq (take 4 bytes) signature)
    otherwise Version (slice_index bytes 4) when not (slice_index bytes 4 == 1)
    otherwise Hash (slice_index bytes 5) when is_none (kind_of (slice_index bytes 5))

-- "CHUNK DATA": the size of each chunk
unfoldable pub bases_refusal : Kind → ℕ → Option ℕ → Option FileError
bases_refusal kind count size =
    BaseSize when is_cut (id_len kind) size
    otherwise BaseCount when has_other_count count (id_len kind) size

unfoldable pub records_refusal : Kind → Option ℕ → Option FileError
records_refusal kind size = NoCommitData when is_none size otherwise CommitDataSize when is_cut (record_len kind) size

unfoldable pub fan_refusal : Option ℕ → Option FileError
fan_refusal size = NoFan when is_none size otherwise FanSize when has_other_size 1024 size

unfoldable pub ids_refusal : Kind → Option ℕ → Option FileError
ids_refusal kind size = NoIds when is_none size otherwise IdsSize when is_cut (id_len kind) size

unfoldable pub edges_refusal : Option ℕ → Option FileError
edges_refusal size = TooManyEdges when has_more 4294967294 4 size

unfoldable pub sizes_refusal : Kind → List ℕ → Option FileError
sizes_refusal kind bytes =
    bases_refusal kind (slice_index bytes 7) (size_of bytes bases_id)
    otherwise records_refusal kind (size_of bytes records_id)
    otherwise fan_refusal (size_of bytes fan_id)
    otherwise ids_refusal kind (size_of bytes ids_id)
    otherwise edges_refusal (size_of bytes edges_id)

-- "TRAILER", and base ids that are missing
unfoldable pub trailer_refusal : Kind → List ℕ → Option FileError
trailer_refusal kind bytes =
    Trailer when not (length bytes - (table_of bytes).end == id_len kind)
    otherwise BaseMissing when (nat_lt 0 (slice_index bytes 7) && is_none (size_of bytes bases_id))

-- the numbers of ids and of records
unfoldable pub counts_refusal : Kind → List ℕ → Option FileError
counts_refusal kind bytes =
    IdCount when has_other_count (commits_of (fan_of bytes)) (id_len kind) (size_of bytes ids_id)
    otherwise RecordCount when has_other_count (commits_of (fan_of bytes)) (record_len kind) (size_of bytes records_id)

-- the groups that ask for the header, the table of chunks and the length alone
unfoldable pub refusal_by_head : List ℕ → Option FileError
refusal_by_head bytes =
    header_refusal bytes
    otherwise option_map Chunks (table_fault bytes 8 (slice_index bytes 6))
    otherwise sizes_refusal (kind_in bytes) bytes
    otherwise trailer_refusal (kind_in bytes) bytes

-- and those that ask for the fan besides
unfoldable pub refusal_by_fan : List ℕ → Option FileError
refusal_by_fan bytes = falling_refusal (fan_of bytes) otherwise counts_refusal (kind_in bytes) bytes
