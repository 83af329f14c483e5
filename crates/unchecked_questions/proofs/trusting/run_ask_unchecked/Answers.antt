-- What is written is the text of a session, or the line of a refusal.
use Rattle.graph_commands.specs.OpenerAnswer.{MayOpen}
use Rattle.question_answers.specs.Taken.{Opener}
use Rattle.unchecked_questions.proofs.TrustingLemmas.{asks_trusted, refuses_trusted}
use Rattle.unchecked_questions.proofs.trusting.run_ask_unchecked.Goals as goal

pub returns-in_ok-failed-in-Ok-clause-written : goal.returns-in_ok-failed-in-Ok-clause-written
returns-in_ok-failed-in-Ok-clause-written g c =
    let opens : Opener = MayOpen (g.T.Folder.tree c.args.folder.now) c.args.path.now in
    let count = rw c.in-Ok.is at c.open_trusted.ensures.count in
    let done = rw c.open_trusted.ensures.tree at c.in_ok-failed-in-Ok.ensures.answered in
    asks_trusted c.end.result opens _ _ _ _ _ _ _ _ _ c.in-Ok.opened.commits done.0 c.in_ok-failed-in-Ok.failed count done.1
    done.2 c.in_ok-write_count-in-Ok.ensures done.3 c.end.ensures

pub returns-in-Err-clause-written : goal.returns-in-Err-clause-written
returns-in-Err-clause-written g c =
    let opens : Opener = MayOpen (g.T.Folder.tree c.args.folder.now) c.args.path.now in
    let count = rw c.in-Err.is at c.open_trusted.ensures.count in
    refuses_trusted c.refuse.result opens _ _ _ _ _ c.in-Err.refusal count c.refuse.ensures
