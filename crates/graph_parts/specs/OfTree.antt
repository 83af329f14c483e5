-- The parts of files that stand in a tree.
use Rattle.std.specs.Prelude.{◌≡◌, List, ℕ, All, Option, Some, true, string_bytes}
use Rattle.std.specs.Option.{ForSome}
use Rattle.gix_chunk_core.specs.FirstBytes.{BeginsWith}
use Rattle.graph_folder.specs.Tree.{Tree, file_at, is_file}
use Rattle.graph_parts.specs.Offsets.{AreOffsetsOf}
use Rattle.graph_parts.specs.PieceBlocks.{AreOf}
use Rattle.graph_parts.specs.declared.layer.LayerParts.{LayerParts}
use Rattle.graph_parts.specs.declared.parts.GraphParts.{GraphParts}

-- The file begins with the head, and has all that is kept.
pub record IsOfFile (part : LayerParts) (file : List ℕ) : Type 0 where
  pub begins : BeginsWith file part.file.head.front.items part.file.head.len
  pub ids : AreOf part.ids file
  pub records : AreOf part.records file
  pub edges : AreOf part.edges file
  pub offsets : AreOffsetsOf part.offsets file

-- A file stands at the path, and the parts are of it.
pub record IsOfTree (tree : Tree) (part : LayerParts) : Type 0 where
  pub there : is_file tree (string_bytes part.file.path) ≡ true
  pub each : (file : List ℕ) → file_at tree (string_bytes part.file.path) ≡ Some file → IsOfFile part file

-- where the tree is known, the parts are of files that stand in it
abbrev pub AreOfTree : Option Tree → GraphParts → Type 0
AreOfTree known parts = ForSome known (λ (tree : Tree). All (IsOfTree tree) parts.layers.items)
