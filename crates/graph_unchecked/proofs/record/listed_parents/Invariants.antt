-- The words so far name the commits so far, and those from the next one on the others.
use Rattle.std.proofs.Common.{◌≡◌, ◌++◌, List}
use Rattle.graph_format.specs.Layer.{Layer}
use Rattle.commit_search.specs.EdgeLists.{list_in, named_from}
use Rattle.commit_search.specs.Positions.{numbers_of}
use Rattle.graph_parts.specs.Shown.{AreGraphParts, SeesMore, Shows}
use Rattle.graph_unchecked.proofs.record.listed_parents.Given as goal

abbrev pub invariant-loop-index : goal.invariant-loop-index
invariant-loop-index g l =
    let tree_of = g.T.Folder.tree in
    let failures = g.T.Folder.failure_count in
    record {
      tree : tree_of l.folder ≡ tree_of l.fn.folder;
      failures : failures l.folder ≡ failures l.fn.folder;
      right : AreGraphParts l.parts;
      sees : SeesMore (tree_of l.fn.folder) l.fn.parts l.parts;
      named : (layers : List Layer) → Shows (tree_of l.fn.folder) l.parts layers
          → numbers_of l.parents.items ++ named_from (list_in layers l.layer) l.index
          ≡ numbers_of l.fn.before.items ++ named_from (list_in layers l.layer) l.first;
    }
