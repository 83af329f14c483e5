use Rattle.graph_format.specs.Parents.{no_parents}
use Rattle.graph_format.specs.StoredHistory.{history_of}
use Rattle.gix_commitgraph.proofs.check.EdgeListLemmas.{no_parents_tallied}
use Rattle.gix_commitgraph.proofs.graph.Graph.after_first.Goals as goal

pub returns-in-GraphPosition : goal.returns-in-GraphPosition
returns-in-GraphPosition c =
    rw c.in-GraphPosition.is
    (c.with_parent.ensures.tally no_parents (no_parents_tallied (history_of c.args.self.now) c.args.span.stop))
