-- The parts are right, and of files that stand in the tree.
use Rattle.graph_unchecked.proofs.TrustedLemmas.{of-same}
use Rattle.graph_unchecked.proofs.source.TrustedCommits.unless_failed.Goals as goal

pub returns-then-not-self-clause-graph : goal.returns-then-not-self-clause-graph
returns-then-not-self-clause-graph g c = λ path before same of.
    let now = c.args.self.now in
    of-same (g.T.Folder.tree now.folder.now) path before now.parts.now now.right now.of same of

pub returns-clause-graph : goal.returns-clause-graph
returns-clause-graph g c = λ path before same of.
    let now = c.args.self.now in
    of-same (g.T.Folder.tree now.folder.now) path before now.parts.now now.right now.of same of
