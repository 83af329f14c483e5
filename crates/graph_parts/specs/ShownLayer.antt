-- What the parts that were read of a layer's file show.
use Rattle.std.specs.Prelude.{◌≡◌, Option, string_bytes}
use Rattle.std.specs.Option.{ForSome}
use Rattle.graph_folder.specs.Tree.{Tree}
use Rattle.graph_format.specs.Layer.{Layer}
use Rattle.graph_find.specs.LayerFinding.{IsLayerOfHead}
use Rattle.graph_find.specs.ReadHead.{IsHead}
use Rattle.graph_parts.specs.PieceBlocks.{AreOf, AreSized, KeepsNothing}
use Rattle.graph_parts.specs.Offsets.{AreLayerOffsets, AreOffsetsOf, KeepsNoOffset}
use Rattle.graph_parts.specs.PartFiles.{AreIds, AreRecords, AreEdges}
use Rattle.graph_parts.specs.declared.layer.LayerParts.{LayerParts}

-- The parts of a layer's file lie where its head says, and each stretch has its length.
pub record IsLayerParts (part : LayerParts) : Type 0 where
  pub head : IsHead part.file.head
  pub ids : AreIds part.file.head part.ids.series
  pub records : AreRecords part.file.head part.records.series
  pub edges : AreEdges part.file.head part.edges.series
  pub sized_ids : AreSized part.ids
  pub sized_records : AreSized part.records
  pub sized_edges : AreSized part.edges
  pub offsets : AreLayerOffsets part.file.head part.offsets

-- The layer is that of a file which begins with the head and has all that is kept: where the tree is known, of the one
-- at the path.
pub record ShowsLayer (known : Option Tree) (part : LayerParts) (layer : Layer) : Type 0 where
  pub of : IsLayerOfHead known (string_bytes part.file.path) part.file.head layer
  pub ids : AreOf part.ids of.file
  pub records : AreOf part.records of.file
  pub edges : AreOf part.edges of.file
  pub offsets : AreOffsetsOf part.offsets of.file

-- nothing but the head was read: each layer of it is shown
abbrev pub ShowsAll : LayerParts → Type 0
ShowsAll part = (known : Option Tree) (layer : Layer)
    → IsLayerOfHead known (string_bytes part.file.path) part.file.head layer → ShowsLayer known part layer

-- nothing but the head is kept
abbrev pub KeepsHeadAlone : LayerParts → Type 0
KeepsHeadAlone part =
    KeepsNothing part.ids × KeepsNothing part.records × KeepsNothing part.edges × KeepsNoOffset part.offsets

-- More of the same file may be kept, where the tree is known those of its file.
pub record SeesMoreOfLayer (known : Option Tree) (old new : LayerParts) : Type 0 where
  pub same : new.file ≡ old.file
  pub kept : (layer : Layer) → ShowsLayer known new layer → ShowsLayer known old layer
  pub told : ForSome known (λ (tree : Tree). (layer : Layer) → ShowsLayer known old layer → ShowsLayer known new layer)
