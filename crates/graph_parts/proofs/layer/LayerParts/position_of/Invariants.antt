-- The id stands nowhere outside of what is left.
use Rattle.std.proofs.Common.{◌≡◌, ◌-◌, ◌≤◌}
use Rattle.graph_format.specs.Layer.{Layer}
use Rattle.graph_layer.proofs.LookupLemmas.{StandsWithin}
use Rattle.graph_parts.specs.PartFiles.{commits_in}
use Rattle.graph_parts.specs.PiecesRead.{LayerPartsWereRead}
use Rattle.graph_parts.specs.ShownLayer.{IsLayerParts, SeesMoreOfLayer, ShowsLayer}
use Rattle.graph_parts.proofs.layer.LayerParts.position_of.Given as goal

abbrev pub invariant-loop-low : goal.invariant-loop-low
invariant-loop-low g l =
    let tree_of = g.T.Folder.tree in
    let failures = g.T.Folder.failure_count in
    record {
      tree : tree_of l.folder ≡ tree_of l.fn.folder;
      failures : failures l.folder ≡ failures l.fn.folder;
      parts : IsLayerParts l.self;
      sees : SeesMoreOfLayer (tree_of l.fn.folder) l.fn.self l.self;
      given : LayerPartsWereRead g.T.Folder.gives_part l.fn.self → LayerPartsWereRead g.T.Folder.gives_part l.self;
      within : l.high ≤ commits_in l.fn.self.file;
      stands : (layer : Layer) → ShowsLayer (tree_of l.fn.folder) l.self layer → StandsWithin layer l.wanted l.low l.high;
    }

abbrev pub decreases-loop-low : goal.decreases-loop-low
decreases-loop-low g l = l.high - l.low
