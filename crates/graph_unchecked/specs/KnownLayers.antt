-- What is found by ids in files of which parts are read, where it is known what stands in the folder.
use Rattle.std.specs.Prelude.{◌≡◌, ℕ, List, Option, Some, slice_get}
use Rattle.std.specs.List.{AllZip}
use Rattle.std.specs.Option.{ForSome}
use Rattle.graph_folder.specs.Tree.{Tree}
use Rattle.graph_format.specs.Layer.{Layer}
use Rattle.gix_commitgraph.specs.Graph.{graph_ids}
use Rattle.gix_commitgraph.specs.GraphLookup.{FoundIn}
use Rattle.graph_find.specs.ChainFinding.{IsLayerOfChain}
use Rattle.graph_unchecked.specs.PartSource.{KnownParts}

-- where the tree is known, it is so of the layers that stand in it in these files
abbrev pub IsSoOfLayers : (List Layer → Type 0) → KnownParts → Type 0
IsSoOfLayers IsSo known =
    ForSome known.tree
    (λ (tree : Tree). (layers : List Layer) → AllZip (IsLayerOfChain (Some tree)) known.files layers → IsSo layers)

-- this is the answer of a lookup in those layers
abbrev pub IsFoundByParts : KnownParts → List ℕ → Option ℕ → Type 0
IsFoundByParts known id answer = IsSoOfLayers (λ layers. FoundIn layers id answer) known

-- this is the id of the commit at a position of those layers
abbrev pub IsIdByParts : KnownParts → ℕ → List ℕ → Type 0
IsIdByParts known p id = IsSoOfLayers (λ layers. slice_get (graph_ids layers) p ≡ Some id) known
