-- The line is that of the answer.
use Rattle.std.specs.Prelude.{Ok}
use Rattle.gix_hash_core.specs.Oid.{oid_bytes}
use Rattle.answer_lines.specs.declared.reply.Reply.TheVariants as reply
use Rattle.history_commands.proofs.AskLemmas.{adds}
use Rattle.question_lines.specs.declared.question.Question.TheVariants as question
use Rattle.history_commands.proofs.asker.tell_found.Goals as goal

pub returns : goal.returns
returns g c =
    adds c.push_found.result c.args.graph.now.layers (question.Find (oid_bytes c.args.id))
    (Ok (reply.Found c.found_in-found.result)) _ _ (rw c.graph.ensures.same at c.found_in-found.ensures) c.push_found.ensures
