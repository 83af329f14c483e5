-- The ids so far are at the positions that were found, in each graph that the parts show.
use Rattle.std.proofs.Common.{◌≡◌, ◌<◌, List, All, take}
use Rattle.std.specs.List.{AllZip}
use Rattle.graph_format.specs.Layer.{Layer}
use Rattle.graph_format.specs.declared.Position.{Position}
use Rattle.commit_search.specs.Positions.{numbers_of}
use Rattle.graph_parts.specs.Shown.{AreGraphParts, SeesMore, Shows, commits_of_parts}
use Rattle.graph_unchecked.specs.Unchecked.{IsFoundAt}
use Rattle.graph_unchecked.proofs.lookup.find_others.Given as goal

abbrev pub invariant-loop-place : goal.invariant-loop-place
invariant-loop-place g l =
    let tree_of = g.T.Folder.tree in
    let failures = g.T.Folder.failure_count in
    record {
      tree : tree_of l.folder ≡ tree_of l.fn.folder;
      failures : failures l.folder ≡ failures l.fn.folder;
      right : AreGraphParts l.parts;
      sees : SeesMore (tree_of l.fn.folder) l.fn.parts l.parts;
      within : All (λ (pos : Position). pos.0 < commits_of_parts l.fn.parts) l.found.items;
      found : (layers : List Layer) → Shows (tree_of l.fn.folder) l.parts layers
          → AllZip (IsFoundAt layers) (take l.place l.others) (numbers_of l.found.items);
    }
