-- What is written is the text of a session, or the line of a refusal.
use Rattle.std.proofs.Common.{refl}
use Rattle.std.specs.Prelude.{Err}
use Rattle.question_commands.specs.ChangingTrees.{MayOpenAmong, Openings}
use Rattle.question_commands.proofs.AskingLemmas.{asks_ended}
use Rattle.question_commands.proofs.asking.run_ask.Goals as goal

pub returns-in_ok-ended-in-Ok-clause-written : goal.returns-in_ok-ended-in-Ok-clause-written
returns-in_ok-ended-in-Ok-clause-written g c =
    let tree = g.T.Folder.tree c.args.folder.now in
    let opens : Openings = MayOpenAmong (g.E.Others.makes c.args.others.now) tree g.T.Folder.gives c.args.path.now in
    let done = rw c.open_first.ensures.tree at c.in_ok-ended-in-Ok.ensures.answered in
    let opened = c.in-Ok.ensures in
    asks_ended c.finish_all.result opens _ _ _ _ _ _ _ _ _ c.in-Ok.graph.layers done.0 done.1 c.in_ok-ended-in-Ok.ended.failed
    c.in_ok-ended-in-Ok.ended.checked (opened.opened, opened.right) done.2 done.3 done.4
    c.in_ok-write_taken-in-Ok.ensures done.5 done.6 c.finish_all.ensures

pub returns-in_ok-refuse-in-Err-clause-written : goal.returns-in_ok-refuse-in-Err-clause-written
returns-in_ok-refuse-in-Err-clause-written g c =
    let told = c.in_ok-refuse-in-Err.ensures in
    (Err c.in-Err.refusal, (c.in-Err.ensures.refused, refl), told.0, told.1, refl)
