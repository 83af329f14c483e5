-- No line is left.
use Rattle.std.proofs.Common.{rules, ◌≡◌, []}
use Rattle.std.specs.Str.Lines.{lines}
use Rattle.graph_find.specs.ChainHeads.{IsHeadOfLine}
use Rattle.graph_find.specs.PartsRead.{LineWasRead}
use Rattle.graph_find.proofs.ChainReadLemmas.{read-all}
use Rattle.graph_find.proofs.chain.read_lines.Goals as goal

pub returns-clause-heads : goal.returns-clause-heads
returns-clause-heads g c =
    let none : c.loop-line.line-iterator ≡ [] = search rules in
    read-all (IsHeadOfLine (g.T.Folder.tree c.args.folder.now) c.args.path.now) (lines c.args.text.now) c.loop-line.line-iterator
    c.loop-line.layers.items none c.loop-line.invariant.read

pub returns-clause-given : goal.returns-clause-given
returns-clause-given g c =
    let none : c.loop-line.line-iterator ≡ [] = search rules in
    read-all (LineWasRead g.T.Folder.gives_part c.args.path.now) (lines c.args.text.now) c.loop-line.line-iterator
    c.loop-line.layers.items none c.loop-line.invariant.given
