-- The file of a plan. (gitformat-commit-graph, "HEADER" to "TRAILER".)
use Rattle.std.specs.Prelude.{ℕ, ◌+◌, ◌*◌, ◌^◌, List, [], ◌∷◌, ◌++◌, map, length, slice_index, nat_le, ◌==◌, count_by, codes}
use Rattle.std.specs.Prelude.{Some, option_map, unwrap_or}
use Rattle.std.specs.List.{flat_map, range_with_len}
use Rattle.gix_hash_core.specs.declared.kind.Kind.{Kind}
use Rattle.gix_hash_core.specs.declared.kind.Kind.TheVariants.{Sha1, Sha256}
use Rattle.gix_hash_core.specs.Digest.{digest_of}
use Rattle.graph_format.specs.Format.{signature, fan_id, ids_id, records_id, edges_id, bases_id}
use Rattle.graph_encoder.specs.Chunks.{NamedChunk, PossibleChunk, unless_empty, those_there, word_bytes, long_bytes, with_chunks}
use Rattle.graph_encoder.specs.ExtraEdges.{extra_words, all_extra_words, first_field, second_field}
use Rattle.graph_encoder.specs.DateOffsets.{offsets_of, large_offsets, offset_words}
use Rattle.graph_encoder.specs.declared.filters.FilterNumbers.{FilterNumbers}
use Rattle.graph_encoder.specs.declared.filters.PlanFilters.{PlanFilters}
use Rattle.graph_encoder.specs.declared.plan.FilePlan.{FilePlan}
use Rattle.graph_encoder.specs.declared.plan.PlanCommit.{PlanCommit}

-- the header's byte that names a kind
abbrev pub kind_byte : Kind → ℕ
kind_byte Sha1 = 1
kind_byte Sha256 = 2

-- "HEADER": signature, version, kind, and the numbers of chunks and of base layers
unfoldable pub header : Kind → ℕ → ℕ → List ℕ
header kind chunks bases = signature ++ 1 ∷ kind_byte kind ∷ chunks ∷ bases ∷ []

-- the ids of commits
abbrev pub ids_of : List PlanCommit → List (List ℕ)
ids_of commits = map (λ c. c.id) commits

-- how many ids have a first byte that is at most this one
abbrev pub ids_up_to : ℕ → List (List ℕ) → ℕ
ids_up_to byte ids = count_by (λ id. nat_le (slice_index id 0) byte) ids

-- "OID Fanout": that number for each byte
unfoldable pub exact_fan : List (List ℕ) → List ℕ
exact_fan ids = map (λ byte. ids_up_to byte ids) (range_with_len 0 256)

-- how many ids have this first byte
abbrev pub ids_with : ℕ → List (List ℕ) → ℕ
ids_with byte ids = count_by (λ id. slice_index id 0 == byte) ids

-- numbers of four bytes, one after another
unfoldable pub words_bytes : List ℕ → List ℕ
words_bytes numbers = flat_map word_bytes numbers

-- numbers of eight bytes, one after another
unfoldable pub longs_bytes : List ℕ → List ℕ
longs_bytes numbers = flat_map long_bytes numbers

-- ids one after another
unfoldable pub ids_bytes : List (List ℕ) → List ℕ
ids_bytes ids = flat_map (λ id. id) ids

-- "Commit Data": a commit's tree, its parents, and 64 bits of generation and time
unfoldable pub record_bytes : ℕ → PlanCommit → List ℕ
record_bytes index commit =
    commit.tree
    ++ (word_bytes (first_field commit.parents.items)
    ++ (word_bytes (second_field index commit.parents.items)
    ++ long_bytes (commit.generation * 2 ^ 34 + commit.time)))

-- the records of commits, where the extra words of the first begin at this index and those of each next one follow
abbrev pub records_from : ℕ → List PlanCommit → List ℕ
records_from index [] = []
records_from index (commit ∷ commits) =
    record_bytes index commit ++ records_from (index + length (extra_words commit.parents.items)) commits

-- "Bloom Filter Index": where the filter of each commit ends
abbrev pub filter_index : PlanFilters → List ℕ
filter_index filters = words_bytes filters.ends.items

-- the version of the hash, the number of hashes, and that of bits for each path
abbrev pub numbers_before : FilterNumbers → List ℕ
numbers_before numbers = numbers.version ∷ numbers.hashes ∷ numbers.bits_per_entry ∷ []

-- "Bloom Filter Data": three numbers, and then the filters
abbrev pub filter_data : PlanFilters → List ℕ
filter_data filters = words_bytes (numbers_before filters.numbers) ++ filters.bytes.items

-- All chunks that the file of a plan may have, in their order. "Generation Data" is there where the plan has dates, both chunks
-- of filters where it has filters, and the other three where they have bytes.
abbrev pub possible_chunks : FilePlan → List PossibleChunk
possible_chunks plan =
    let commits = plan.commits.items in
    record { id = fan_id; bytes = Some (words_bytes (exact_fan (ids_of commits))) }
    ∷ record { id = ids_id; bytes = Some (ids_bytes (ids_of commits)) }
    ∷ record { id = records_id; bytes = Some (records_from 0 commits) }
    ∷ record { id = codes "GDA2"; bytes = option_map (λ offsets. words_bytes (offset_words offsets)) (offsets_of plan) }
    ∷ record { id = codes "GDO2"; bytes = unless_empty (longs_bytes (large_offsets (unwrap_or (offsets_of plan) []))) }
    ∷ record { id = edges_id; bytes = unless_empty (words_bytes (all_extra_words commits)) }
    ∷ record { id = codes "BIDX"; bytes = option_map filter_index plan.filters }
    ∷ record { id = codes "BDAT"; bytes = option_map filter_data plan.filters }
    ∷ record { id = bases_id; bytes = unless_empty (ids_bytes plan.bases.items) }
    ∷ []

-- the chunks of the file
abbrev pub planned_chunks : FilePlan → List NamedChunk
planned_chunks plan = those_there (possible_chunks plan)

-- all but the trailer
unfoldable pub planned_body : FilePlan → List ℕ
planned_body plan =
    let chunks = planned_chunks plan in
    with_chunks (header plan.kind (length chunks) (length plan.bases.items)) chunks

-- "TRAILER": the digest of all before it
unfoldable pub planned_file : FilePlan → List ℕ
planned_file plan = planned_body plan ++ digest_of plan.kind (planned_body plan)
