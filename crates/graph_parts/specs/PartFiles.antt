-- The files of layers, and where their parts lie, as their heads say it.
use Rattle.std.specs.Prelude.{◌≡◌, ℕ, ◌/◌, List, [], sum_by}
use Rattle.std.specs.Option.{option_map_or}
use Rattle.gix_hash_core.specs.Kind.{id_len}
use Rattle.graph_format.specs.ChunkRanges.{chunk_start, size_at}
use Rattle.graph_format.specs.Format.{record_len, words}
use Rattle.graph_format.specs.Layer.{Layer}
use Rattle.graph_find.specs.declared.chain.ChainLayer.{ChainLayer}
use Rattle.graph_find.specs.declared.head.Head.{Head}
use Rattle.graph_parts.specs.PieceBlocks.{FitsIn}
use Rattle.graph_parts.specs.declared.pieces.Series.{Series}

-- how many commits a file has
abbrev pub commits_in : ChainLayer → ℕ
commits_in file = file.head.layout.commits

-- how many files have together
abbrev pub commits_in_all : List ChainLayer → ℕ
commits_in_all files = sum_by commits_in files

-- how many words the extra edge list of a file has, none where it has no such list ("Extra Edge List")
abbrev pub edge_count : ChainLayer → ℕ
edge_count file = option_map_or (λ chunk. size_at chunk / 4) file.head.layout.chunks.edges 0

-- the words of a layer's extra edge list, none where it has no such list
abbrev pub edge_words : Layer → List ℕ
edge_words layer = option_map_or words layer.edges []

-- The ids lie here ("OID Lookup").
pub record AreIds (head : Head) (series : Series) : Type 0 where
  pub start : series.start ≡ head.layout.chunks.ids.start
  pub size : series.size ≡ id_len head.layout.kind
  pub count : series.count ≡ head.layout.commits
  pub fits : FitsIn series head.len

-- The records lie here ("Commit Data").
pub record AreRecords (head : Head) (series : Series) : Type 0 where
  pub start : series.start ≡ head.layout.chunks.records.start
  pub size : series.size ≡ record_len head.layout.kind
  pub count : series.count ≡ head.layout.commits
  pub fits : FitsIn series head.len

-- The words of the extra edge list lie here ("Extra Edge List").
pub record AreEdges (head : Head) (series : Series) : Type 0 where
  pub start : series.start ≡ chunk_start head.layout.chunks.edges
  pub size : series.size ≡ 4
  pub count : series.count ≡ option_map_or (λ chunk. size_at chunk / 4) head.layout.chunks.edges 0
  pub fits : FitsIn series head.len
