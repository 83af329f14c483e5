-- The answer is about the graph that was opened, or why none was.
use Rattle.graph_commands.specs.OpenerAnswer.{MayOpenIn}
use Rattle.show_commands.proofs.ShownAnswers.{writes_shown, writes_unopened}
use Rattle.show_commands.proofs.run.run_show.Goals as goal

pub returns-in-Ok-clause-written : goal.returns-in-Ok-clause-written
returns-in-Ok-clause-written g c =
    let opens = MayOpenIn g.T.Folder c.args.folder.now c.open_in.new.folder c.args.path.now in
    writes_shown opens c.in-Ok.graph c.show.result _ _
    (c.in-Ok.ensures.opens, c.in-Ok.ensures.graph, c.in-Ok.ensures.device) c.show.ensures

pub returns-in-Err-clause-written : goal.returns-in-Err-clause-written
returns-in-Err-clause-written g c =
    let opens = MayOpenIn g.T.Folder c.args.folder.now c.open_in.new.folder c.args.path.now in
    writes_unopened opens c.in-Err.error c.refuse.result _ _
    (c.in-Err.ensures.opens, c.in-Err.ensures.graph, c.in-Err.ensures.device) c.refuse.ensures
