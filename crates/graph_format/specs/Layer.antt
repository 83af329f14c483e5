-- A layer of a commit-graph, and when bytes are a file of it (gitformat-commit-graph, version 1).
use Rattle.std.specs.Prelude.{◌≡◌, ℕ, ◌+◌, ◌-◌, ◌*◌, ◌/◌, ◌<◌, ◌≤◌, List, [], map, length, take, drop, slice_get, slice_index}
use Rattle.std.specs.Prelude.{Option, Some, unwrap_or, IfSome, IsSomeAnd, MatchOption, ◌++◌}
use Rattle.std.specs.List.{range_with_len}
use Rattle.gix_chunk_core.specs.Table.{Chunks}
use Rattle.gix_hash_core.specs.declared.kind.Kind.{Kind}
use Rattle.gix_hash_core.specs.Kind.{id_len, kind_of}
use Rattle.graph_format.specs.Format.{Record, record_of, record_len, commits_of, kind_in, fan_of, signature, least_size, table_of}
use Rattle.graph_format.specs.Format.{chunk_of, pieces, words, fan_id, ids_id, records_id, edges_id, bases_id}

-- What a file says, and the path that came with it. The edges are bytes, none where the chunk is missing, and the body is
-- all bytes before the checksum.
pub record Layer : Type 0 where
  pub kind : Kind
  pub bases : List (List ℕ)
  pub fan : List ℕ
  pub ids : List (List ℕ)
  pub records : List Record
  pub edges : Option (List ℕ)
  pub checksum : List ℕ
  pub body : List ℕ
  pub path : List ℕ

-- The bytes are a file of this layer.
pub record IsLayer (bytes path : List ℕ) (layer : Layer) : Type 0 where
  -- "HEADER"
  pub size : least_size ≤ length bytes
  pub starts : take 4 bytes ≡ signature
  pub version : slice_index bytes 4 ≡ 1
  pub kind : kind_of (slice_index bytes 5) ≡ Some layer.kind
  -- "CHUNK LOOKUP": a table of chunks follows the header, whose byte 6 is their number
  pub table : Chunks bytes 8 (slice_index bytes 6) (table_of bytes)
  -- "OID Fanout": 256 numbers, which do not fall
  pub fan : IsSomeAnd (chunk_of bytes fan_id) (λ chunk. (length chunk ≡ 1024) × (layer.fan ≡ words chunk))
  pub rising : (i : ℕ) → i < 255 → slice_index layer.fan i ≤ slice_index layer.fan (i + 1)
  -- "OID Lookup" and "Commit Data": as many ids and records as the fan counts
  pub ids : IsSomeAnd (chunk_of bytes ids_id)
      (λ chunk. (length chunk ≡ id_len layer.kind * commits_of layer.fan) × (layer.ids ≡ pieces (id_len layer.kind) chunk))
  pub records : IsSomeAnd (chunk_of bytes records_id)
      (λ chunk. (length chunk ≡ record_len layer.kind * commits_of layer.fan)
      × (layer.records ≡ map (record_of layer.kind) (pieces (record_len layer.kind) chunk)))
  -- "Base Graphs List": as many ids as the header's byte 7 says, and no chunk is needed for none
  pub bases : MatchOption (chunk_of bytes bases_id) ((slice_index bytes 7 ≡ 0) × (layer.bases ≡ []))
      (λ chunk. (length chunk ≡ id_len layer.kind * slice_index bytes 7) × (layer.bases ≡ pieces (id_len layer.kind) chunk))
  -- "Extra Edge List": so few words that a number of parents fits 32 bits
  pub edges : layer.edges ≡ chunk_of bytes edges_id
  pub few_edges : IfSome layer.edges (λ chunk. length chunk / 4 ≤ 4294967294)
  -- "TRAILER": what follows the last chunk is the checksum, as long as an id
  pub body : layer.body ≡ take (table_of bytes).end bytes
  pub checksum : layer.checksum ≡ drop (table_of bytes).end bytes
  pub whole : length layer.checksum ≡ id_len layer.kind
  pub origin : layer.path ≡ path

-- the bytes of a chunk, none where it is missing
abbrev pub contents : List ℕ → List ℕ → List ℕ
contents bytes id = unwrap_or (chunk_of bytes id) []

-- the layer that the parts of the bytes spell, where they are a file of one
unfoldable pub decoded_layer : List ℕ → List ℕ → Layer
decoded_layer bytes path =
    let kind = kind_in bytes in
    record {
      kind = kind;
      bases = pieces (id_len kind) (contents bytes bases_id);
      fan = fan_of bytes;
      ids = pieces (id_len kind) (contents bytes ids_id);
      records = map (record_of kind) (pieces (record_len kind) (contents bytes records_id));
      edges = chunk_of bytes edges_id;
      checksum = drop (table_of bytes).end bytes;
      body = take (table_of bytes).end bytes;
      path = path;
    }

-- a record without content, for positions past the last record
abbrev pub no_record : Record
no_record = record { tree = []; parent1 = 0; parent2 = 0; generation = 0; time = 0 }

-- the record at a position
unfoldable pub record_at : Layer → ℕ → Record
record_at layer i = unwrap_or (slice_get layer.records i) no_record

-- the bytes of the layer's file
abbrev pub bytes_of : Layer → List ℕ
bytes_of layer = layer.body ++ layer.checksum

-- the layer is that of a file that was opened
abbrev pub IsOpened : Layer → Type 0
IsOpened layer = IsLayer (bytes_of layer) layer.path layer

-- the positions of a layer from one on
abbrev pub positions_from : Layer → ℕ → List (Layer × ℕ)
positions_from layer i = map (λ pos. (layer, pos)) (range_with_len i (length layer.ids - i))
