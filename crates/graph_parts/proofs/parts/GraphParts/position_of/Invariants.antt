-- The layers so far do not have the id, and no device has failed.
use Rattle.std.proofs.Common.{◌≡◌, List, length, take}
use Rattle.gix_hash_core.specs.Oid.{oid_bytes}
use Rattle.graph_format.specs.Layer.{Layer}
use Rattle.gix_commitgraph.proofs.lookup.GraphLookupLemmas.{IsMissed}
use Rattle.graph_parts.specs.PartFiles.{commits_in_all}
use Rattle.graph_parts.specs.PiecesRead.{PartsWereRead}
use Rattle.graph_parts.specs.Shown.{AreGraphParts, SeesMore, Shows, files_of}
use Rattle.graph_parts.proofs.parts.GraphParts.position_of.Given as goal

abbrev pub invariant-loop-layer : goal.invariant-loop-layer
invariant-loop-layer g l =
    let tree_of = g.T.Folder.tree in
    let failures = g.T.Folder.failure_count in
    record {
      tree : tree_of l.folder ≡ tree_of l.fn.folder;
      failures : failures l.folder ≡ failures l.fn.folder;
      right : AreGraphParts l.self;
      sees : SeesMore (tree_of l.fn.folder) l.fn.self l.self;
      given : PartsWereRead g.T.Folder.gives_part l.fn.self → PartsWereRead g.T.Folder.gives_part l.self;
      long : length l.self.layers.items ≡ l.layer-end;
      counted : l.start ≡ commits_in_all (take l.layer (files_of l.fn.self));
      missed : (layers : List Layer) → Shows (tree_of l.fn.folder) l.self layers → IsMissed layers (oid_bytes l.id) l.layer;
    }
