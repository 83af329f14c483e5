-- The lines are those of the answer; where there is no memory for a buffer, that is told.
use Rattle.std.proofs.Common.{ℕ, refl}
use Rattle.std.specs.Prelude.{Ok}
use Rattle.graph_commands.proofs.BufferLemmas.{appends_written}
use Rattle.graph_commands.proofs.ToldLemmas.{told_at}
use Rattle.answer_lines.specs.Replies.{IsKnown, listed_reply, response_status, response_text}
use Rattle.answer_lines.proofs.reply.«Reply+Vec+ObjectId».write.Goals as goal

pub returns-in_ok-write_out-in-Ok : goal.returns-in_ok-write_out-in-Ok
returns-in_ok-write_out-in-Ok g c =
    let reply = listed_reply c.args.self.now in
    told_at (response_text c.args.form) response_status IsKnown reply reply refl _ _ c.status.result
    (appends_written {E = ℕ} (Ok c.in_ok-write_out-in-Ok.field-0) _ _ _ _ _ _ c.in-Ok.ensures c.in_ok-push-in-Ok.ensures
    c.in_ok-write_out-in-Ok.ensures.written) c.status.ensures

pub returns-in-Err : goal.returns-in-Err
returns-in-Err g c = c.write_unbuffered.ensures c.args.form
