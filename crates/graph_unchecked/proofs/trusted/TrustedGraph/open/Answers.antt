-- The parts of what was opened are of the graph at the path.
use Rattle.graph_unchecked.proofs.TrustedLemmas.{of-opened}
use Rattle.graph_unchecked.proofs.trusted.TrustedGraph.open.Goals as goal

pub returns-in-Some-clause-graph : goal.returns-in-Some-clause-graph
returns-in-Some-clause-graph g c =
    of-opened (g.T.Folder.tree c.args.folder.now) c.args.path.now c.in-Some.parts
    (rw c.in-Some.is at c.in_ok-opened.ensures.opened)

pub returns-in-Some-clause-given : goal.returns-in-Some-clause-given
returns-in-Some-clause-given g c = rw c.in-Some.is at c.in_ok-opened.ensures.given
