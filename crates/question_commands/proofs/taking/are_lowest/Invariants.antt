-- The lines so far name the layers so far, whose files were read, and no device has failed.
use Rattle.std.proofs.Common.{◌≡◌, All, Some, map, take}
use Rattle.graph_folder.specs.Tree.{Tree}
use Rattle.graph_layer.specs.LayerOpening.{LayerWasRead}
use Rattle.gix_commitgraph.specs.Opening.{layers_from}
use Rattle.gix_commitgraph.specs.Paths.{layer_path}
use Rattle.gix_commitgraph.proofs.opening.OpenedPathLemmas.{paths_with}
use Rattle.question_commands.specs.TakenAnew.{layers_with}
use Rattle.question_commands.proofs.taking.are_lowest.Given as goal

abbrev pub invariant-loop-file : goal.invariant-loop-file
invariant-loop-file g l = record {
  tree : g.T.Folder.tree l.folder ≡ g.T.Folder.tree l.fn.folder;
  failures : g.T.Folder.failure_count l.folder ≡ g.T.Folder.failure_count l.fn.folder;
  layers : (tree : Tree) → g.T.Folder.tree l.fn.folder ≡ Some tree
      → layers_from tree l.path 0 l.fn.lines ≡ layers_with (take l.file-index l.standing) tree l.path l.file-index l.lines;
  named : map (layer_path l.path) l.fn.lines ≡ paths_with (take l.file-index l.standing) l.path l.lines;
  given : All (LayerWasRead g.T.Folder.gives) (take l.file-index l.standing);
}
