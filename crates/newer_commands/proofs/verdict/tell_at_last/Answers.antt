-- An empty line, and then the lines of the answer or of the refusal.
use Rattle.std.proofs.Common.{ap}
use Rattle.answer_lines.specs.Replies.{listed_reply}
use Rattle.newer_commands.specs.AskedReply.{listed_verdict}
use Rattle.newer_commands.proofs.TellLemmas.{refusal_told, reply_told}
use Rattle.newer_commands.proofs.verdict.tell_at_last.Goals as goal

pub returns-in-Ok : goal.returns-in-Ok
returns-in-Ok g c =
    reply_told c.write.result c.args.form (listed_reply c.in-Ok.reply) (listed_verdict c.args.verdict.now) _ _ _
    (ap listed_verdict c.in-Ok.is) c.in_ok-end_requests.ensures c.write.ensures

pub returns-in-Err : goal.returns-in-Err
returns-in-Err g c =
    refusal_told c.tell_refusal.result c.args.form c.in-Err.refusal (listed_verdict c.args.verdict.now) _ _ _
    (ap listed_verdict c.in-Err.is) c.in_ok-end_requests.ensures (c.tell_refusal.ensures c.args.form)
