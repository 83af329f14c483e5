-- The lines are those of the answer, or say that memory ran out.
use Rattle.std.proofs.Common.{refl}
use Rattle.std.specs.Prelude.{Ok, Err}
use Rattle.answer_lines.specs.Replies.{listed_reply}
use Rattle.graph_commands.specs.declared.refusal.Refusal.TheVariants.{Walk}
use Rattle.history_commands.proofs.AskLemmas.{adds}
use Rattle.history_commands.proofs.asker.CheckedAsker.tell_searched.Goals as goal

pub returns-in-Ok-clause-told : goal.returns-in-Ok-clause-told
returns-in-Ok-clause-told g c =
    adds c.push.result c.args.self.now c.args.question.now (Ok (listed_reply c.in-Ok.reply)) _ _ c.in-Ok.ensures.reply
    c.push.ensures

pub returns-in-Err-clause-told : goal.returns-in-Err-clause-told
returns-in-Err-clause-told g c =
    adds c.push_text.result c.args.self.now c.args.question.now (Err Walk) _ _
    (refl, (c.requires, c.in-Err.ensures.refused.1)) c.push_text.ensures
