-- What was opened while no read failed may stay.
use Rattle.unchecked_questions.proofs.KeptLemmas.{may_stay}
use Rattle.unchecked_questions.proofs.asker.open_whole.Goals as goal

pub returns-in-Ok-clause-stays : goal.returns-in-Ok-clause-stays
returns-in-Ok-clause-stays g c is =
    let met = rw c.failures-failures.ensures at (c.has_met_none.ensures is) in
    may_stay (g.T.Folder.tree c.args.folder.now) c.args.path.now (g.T.Folder.failure_count c.args.folder.now)
    (g.T.Folder.failure_count c.open_checked.new.folder) c.in-Ok.graph.layers met c.in-Ok.ensures.opened
