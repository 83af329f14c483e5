-- What the parts that were read of a graph's files show.
use Rattle.std.specs.Prelude.{◌≡◌, ℕ, ◌≤◌, List, All, map, slice_get, sum_by, Option, Result, Ok}
use Rattle.std.specs.List.{AllZip}
use Rattle.std.specs.Option.{ForSome, option_map_or}
use Rattle.graph_folder.specs.Tree.{Tree}
use Rattle.graph_format.specs.Layer.{Layer}
use Rattle.graph_format.specs.declared.TheConstants.{MAX_COMMITS}
use Rattle.graph_layer.specs.declared.opening.error.OpenError.{OpenError}
use Rattle.gix_commitgraph.specs.Graph.{IsGraph}
use Rattle.graph_find.specs.declared.chain.ChainLayer.{ChainLayer}
use Rattle.graph_parts.specs.PartFiles.{commits_in, edge_count}
use Rattle.graph_parts.specs.ShownLayer.{IsLayerParts, KeepsHeadAlone, ShowsAll, ShowsLayer}
use Rattle.graph_parts.specs.declared.layer.LayerParts.{LayerParts}
use Rattle.graph_parts.specs.declared.parts.GraphParts.{GraphParts}

-- the files that are read
abbrev pub files_of : GraphParts → List ChainLayer
files_of parts = map (λ (part : LayerParts). part.file) parts.layers.items

-- how many commits a layer has
abbrev pub commits_of_part : LayerParts → ℕ
commits_of_part part = commits_in part.file

-- how many all of them have
abbrev pub commits_of_parts : GraphParts → ℕ
commits_of_parts parts = sum_by commits_of_part parts.layers.items

-- how many words the extra edge list of a layer has, none where there is no such layer
abbrev pub edge_count_at : GraphParts → ℕ → ℕ
edge_count_at parts l = option_map_or edge_count (slice_get (files_of parts) l) 0

-- the layers are those of files that begin with the heads and have all that is kept
abbrev pub Shows : Option Tree → GraphParts → List Layer → Type 0
Shows known parts layers = AllZip (ShowsLayer known) parts.layers.items layers

-- The parts lie where the heads say, and the commits are no more than those of a graph.
pub record AreGraphParts (parts : GraphParts) : Type 0 where
  pub each : All IsLayerParts parts.layers.items
  pub few : commits_of_parts parts ≤ MAX_COMMITS

-- More of the same files may be kept, where the tree is known those of its files.
pub record SeesMore (known : Option Tree) (old new : GraphParts) : Type 0 where
  pub same : files_of new ≡ files_of old
  pub kept : (layers : List Layer) → Shows known new layers → Shows known old layers
  pub told : ForSome known (λ (tree : Tree). (layers : List Layer) → Shows known old layers → Shows known new layers)

-- The layers make a graph: where the tree is known, the one that an opener finds there.
pub record AreOpened (known : Option Tree) (opened : Tree → Result (List Layer) OpenError) (IsFrom : List Layer → Type 0)
    (layers : List Layer) : Type 0 where
  pub opens : ForSome known (λ (tree : Tree). opened tree ≡ Ok layers)
  pub graph : IsGraph layers
  pub from : IsFrom layers

-- The parts show some layers, and each layers that they show are such a graph.
pub record ArePartsOf (known : Option Tree) (opened : Tree → Result (List Layer) OpenError) (IsFrom : List Layer → Type 0)
    (parts : GraphParts) : Type 0 where
  pub right : AreGraphParts parts
  pub some : (layers : List Layer) × Shows known parts layers
  pub each : (layers : List Layer) → Shows known parts layers → AreOpened known opened IsFrom layers

-- The parts are those of the files, and nothing but the heads was read.
pub record AreUnread (files : List ChainLayer) (parts : List LayerParts) : Type 0 where
  pub same : map (λ (part : LayerParts). part.file) parts ≡ files
  pub each : All IsLayerParts parts
  pub all : All ShowsAll parts
  pub none : All KeepsHeadAlone parts
