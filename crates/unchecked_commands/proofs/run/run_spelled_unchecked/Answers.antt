-- The texts spell the ids of the question, or are not read.
use Rattle.std.proofs.Common.{◌≡◌, inr, refl}
use Rattle.answer_lines.specs.Replies.{response_status, response_text}
use Rattle.graph_commands.specs.OpenerAnswer.{MayOpen}
use Rattle.graph_commands.proofs.ToldLemmas.{writes_refused}
use Rattle.history_commands.specs.SpelledQuestions.{spelled_name, spelled_texts}
use Rattle.history_commands.proofs.AskLemmas.{asks_read}
use Rattle.unchecked_commands.specs.TrustedReplies.{MayReplyTrusted}
use Rattle.unchecked_commands.proofs.run.run_spelled_unchecked.Goals as goal

pub returns-in-Ok-clause-written : goal.returns-in-Ok-clause-written
returns-in-Ok-clause-written g c =
    let may = MayReplyTrusted (MayOpen (g.T.Folder.tree c.args.folder.now) c.args.path.now)
    (g.T.Folder.failure_count c.args.folder.now) (g.T.Folder.failure_count c.run_question_unchecked.new.folder) in
    asks_read (response_text c.args.form) response_status (spelled_name c.args.question) (spelled_texts c.args.question)
    (c.run_question_unchecked.new.folder ≡ c.args.folder.now) may c.in-Ok.question c.run_question_unchecked.result _ _
    c.in-Ok.ensures.named c.in-Ok.ensures.spelled c.run_question_unchecked.ensures.written

pub returns-in-Err-clause-written : goal.returns-in-Err-clause-written
returns-in-Err-clause-written g c =
    writes_refused (response_text c.args.form) response_status _ c.in-Err.refusal _ _ c.refuse.result refl refl
    (inr (c.in-Err.ensures.refused, refl)) c.refuse.ensures
