-- The ids so far are those of the commits so far, in each graph that the parts show.
use Rattle.std.proofs.Common.{◌≡◌, List, take}
use Rattle.graph_format.specs.Layer.{Layer}
use Rattle.gix_commitgraph.specs.IdWalks.{ids_at}
use Rattle.commit_search.specs.Positions.{numbers_of}
use Rattle.graph_parts.specs.Shown.{AreGraphParts, SeesMore, Shows}
use Rattle.graph_unchecked.proofs.ids.read_ids.Given as goal

abbrev pub invariant-loop-pos : goal.invariant-loop-pos
invariant-loop-pos g l =
    let tree_of = g.T.Folder.tree in
    let failures = g.T.Folder.failure_count in
    record {
      tree : tree_of l.folder ≡ tree_of l.fn.folder;
      failures : failures l.folder ≡ failures l.fn.folder;
      right : AreGraphParts l.parts;
      sees : SeesMore (tree_of l.fn.folder) l.fn.parts l.parts;
      ids : (layers : List Layer) → Shows (tree_of l.fn.folder) l.parts layers
          → l.ids.items ≡ ids_at layers (numbers_of (take l.pos-index l.positions));
    }
