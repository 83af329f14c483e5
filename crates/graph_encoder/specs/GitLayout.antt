-- The layout in which Git and this library write a file. (gitformat-commit-graph, "HEADER" to "TRAILER".)
use Rattle.std.specs.Prelude.{◌≡◌, ◌*◌, ◌<◌, ◌≤◌, ◌++◌, ℕ, List, [], ◌∷◌, All, IfSome, codes, length, map, slice_index}
use Rattle.graph_format.specs.Format.{chunk_of, fan_id, ids_id, records_id, edges_id, bases_id}
use Rattle.graph_format.specs.Layer.{Layer}
use Rattle.graph_format.specs.Parents.{parents_of}
use Rattle.graph_encoder.specs.Chunks.{NamedChunk, those_there, with_chunks}
use Rattle.graph_encoder.specs.ExtraEdges.{top_bit}
use Rattle.graph_encoder.specs.Written.{header}

-- Git's chunks, in the order in which they are written
abbrev pub chunk_order : List (List ℕ)
chunk_order =
    fan_id ∷ ids_id ∷ records_id ∷ codes "GDA2" ∷ codes "GDO2" ∷ edges_id ∷ codes "BIDX" ∷ codes "BDAT" ∷ bases_id ∷ []

-- those that a file has
abbrev pub chunks_in_order : List ℕ → List NamedChunk
chunks_in_order file = those_there (map (λ id. record { id = id; bytes = chunk_of file id }) chunk_order)

-- The bytes are words, and there are some.
pub record HasWords (chunk : List ℕ) : Type 0 where
  pub some : 0 < length chunk
  pub count : ℕ
  pub whole : length chunk ≡ 4 * count

-- The file of this layer is its header, a table of Git's chunks, these chunks in their order, each right behind the one before,
-- and the checksum. So no chunk stands beside them.
pub record IsInGitLayout (file : List ℕ) (layer : Layer) : Type 0 where
  pub bytes : (i : ℕ) → slice_index file i < 256
  pub laid : file
      ≡ with_chunks (header layer.kind (length (chunks_in_order file)) (length layer.bases)) (chunks_in_order file)
      ++ layer.checksum
  -- extra edges and base ids have a chunk only where there are some
  pub edges : IfSome (chunk_of file edges_id) HasWords
  pub bases : IfSome (chunk_of file bases_id) (λ chunk. 0 < length chunk)
  -- up to two parents are named in the record itself
  pub direct : All (λ r. length (parents_of r layer.edges).positions ≤ 2 → r.parent2 < top_bit) layer.records
