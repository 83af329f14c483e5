-- The lines that are left name what follows the heads so far, and no device has failed.
use Rattle.std.proofs.Common.{◌≡◌}
use Rattle.std.specs.Str.Lines.{lines}
use Rattle.graph_find.specs.ChainHeads.{IsHeadOfLine}
use Rattle.graph_find.specs.PartsRead.{LineWasRead}
use Rattle.graph_find.proofs.ChainReadLemmas.{ReadTo}
use Rattle.graph_find.proofs.chain.read_lines.Given as goal

abbrev pub invariant-loop-line : goal.invariant-loop-line
invariant-loop-line g l =
    let tree_of = g.T.Folder.tree in
    let failures = g.T.Folder.failure_count in
    record {
      can_next : (goal.iterator-loop-line g).can_next l.line-iterator;
      is_finite : (goal.iterator-loop-line g).is_finite l.line-iterator;
      tree : tree_of l.folder ≡ tree_of l.fn.folder;
      failures : failures l.folder ≡ failures l.fn.folder;
      read : ReadTo (IsHeadOfLine (tree_of l.fn.folder) l.path) (lines l.text) l.line-iterator l.layers.items;
      given : ReadTo (LineWasRead g.T.Folder.gives_part l.path) (lines l.text) l.line-iterator l.layers.items;
    }
