use Rattle.std.proofs.Common.{◌≡◌, ◌+◌, All, Some, length, map, vec_len}
use Rattle.graph_folder.specs.Tree.{Tree}
use Rattle.graph_layer.specs.LayerOpening.{LayerWasRead}
use Rattle.gix_commitgraph.specs.OpenAlways.{IsFromChain}
use Rattle.gix_commitgraph.specs.Opening.{layers_from}
use Rattle.gix_commitgraph.specs.Paths.{layer_path}
use Rattle.gix_commitgraph.proofs.opening.ChainOpeningLemmas.{IsRead, layers_with}
use Rattle.gix_commitgraph.proofs.opening.OpenedPathLemmas.{paths_with}
use Rattle.gix_commitgraph.proofs.opening.chain.open_lines.Given as goal

-- the lines that are left name what follows the layers so far, of which there is one for each line before; each was read, and is
-- the file that its line names, and no device has failed
abbrev pub invariant-loop-line : goal.invariant-loop-line
invariant-loop-line g l =
    let tree_of = g.T.Folder.tree in
    let failures = g.T.Folder.failure_count in
    record {
      can_next : (goal.iterator-loop-line g).can_next l.line-iterator;
      is_finite : (goal.iterator-loop-line g).is_finite l.line-iterator;
      tree : tree_of l.folder ≡ tree_of l.fn.folder;
      failures : failures l.folder ≡ failures l.fn.folder;
      from : IsFromChain l.path l.files.items;
      given : All (LayerWasRead g.T.Folder.gives) l.files.items;
      named : paths_with l.files.items l.path l.line-iterator ≡ map (layer_path l.path) l.fn.lines;
      counted : vec_len l.files + length l.line-iterator ≡ length l.fn.lines;
      read : (tree : Tree) → tree_of l.fn.folder ≡ Some tree → All (IsRead tree) l.files.items;
      layers : (tree : Tree) → tree_of l.fn.folder ≡ Some tree
          → layers_from tree l.path (length l.below) l.fn.lines
          ≡ layers_with l.files.items tree l.path (length l.below + vec_len l.files) l.line-iterator;
    }
