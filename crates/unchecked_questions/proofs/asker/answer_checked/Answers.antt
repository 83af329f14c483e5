-- What the check finds may be told, and the graph may stay.
use Rattle.std.specs.Prelude.{Err}
use Rattle.graph_commands.specs.OpenerAnswer.{MayOpen}
use Rattle.question_answers.specs.Taken.{Opener, opened_line}
use Rattle.unchecked_questions.proofs.TrustingLemmas.{adds, tells-over, tells-refused}
use Rattle.unchecked_questions.proofs.asker.answer_checked.Goals as goal

pub returns-in-Err-clause-told : goal.returns-in-Err-clause-told
returns-in-Err-clause-told g c =
    let opens : Opener = MayOpen (g.T.Folder.tree c.args.folder.now) c.args.path.now in
    adds c.push_refusal.result _ (opened_line (Err c.in-Err.refusal)) _ _
    (tells-refused opens _ _ c.args.question.now c.in-Err.refusal c.in-Err.ensures.refused) c.push_refusal.ensures

pub returns-clause-told : goal.returns-clause-told
returns-clause-told g c =
    let opens : Opener = MayOpen (g.T.Folder.tree c.args.folder.now) c.args.path.now in
    let added = c.in_ok-answer_whole.ensures in (
      added.0,
      tells-over opens _ _ c.args.question.now c.in-Ok.whole.graph.layers added.0 c.in-Ok.ensures.opened c.in-Ok.ensures.right
          added.1,
      added.2,
    )

pub returns-clause-kept : goal.returns-clause-kept
returns-clause-kept g c =
    c.keep.ensures (g.T.Folder.tree c.args.folder.now) c.args.path.now c.in-Ok.ensures.right c.in-Ok.ensures.stays
