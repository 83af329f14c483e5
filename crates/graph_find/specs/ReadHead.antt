-- The first bytes of a file, and where its parts lie ("HEADER", "CHUNK LOOKUP", "OID Fanout").
use Rattle.std.specs.Prelude.{◌≡◌, ℕ, ◌+◌, ◌*◌, ◌≤◌, List, length, slice_index, Option}
use Rattle.std.specs.Option.{ForSome, IsSomeAnd}
use Rattle.gix_hash_core.specs.Kind.{id_len}
use Rattle.graph_folder.specs.Tree.{Tree, file_at}
use Rattle.graph_format.specs.Format.{record_len}
use Rattle.graph_format.specs.Head.{BeginsWith, IsLayoutOfHead}
use Rattle.graph_format.specs.Lookup.{bucket_start}
use Rattle.graph_format.specs.declared.TheConstants.{MAX_COMMITS}
use Rattle.graph_format.specs.declared.layout.Layout.{Layout}
use Rattle.graph_find.specs.declared.head.Head.{Head}
use Rattle.graph_find.specs.declared.head.Span.{Span}

-- The ids follow the first bytes, and the records the ids.
pub record LieInOrder (layout : Layout) (front len : ℕ) : Type 0 where
  pub few : layout.commits ≤ MAX_COMMITS
  pub ids : front ≤ layout.chunks.ids.start
  pub records : layout.chunks.ids.start + id_len layout.kind * layout.commits ≤ layout.chunks.records.start
  pub end : layout.chunks.records.start + record_len layout.kind * layout.commits ≤ len

-- The first bytes are those of files with this layout, whose ids and records follow them.
pub record IsHead (head : Head) : Type 0 where
  pub layout : IsLayoutOfHead head.front.items head.len head.layout
  pub fits : length head.front.items ≤ head.len
  pub order : LieInOrder head.layout (length head.front.items) head.len

-- where the tree is known, the file at the path begins so
abbrev pub BeginsAt : Option Tree → List ℕ → Head → Type 0
BeginsAt known path head =
    ForSome known (λ tree. IsSomeAnd (file_at tree path) (λ file. BeginsWith file head.front.items head.len))

-- The positions of a byte's bucket.
pub record IsBucketSpan (fan : List ℕ) (byte : ℕ) (span : Span) : Type 0 where
  pub start : span.start ≡ bucket_start fan byte
  pub end : span.end ≡ slice_index fan byte
