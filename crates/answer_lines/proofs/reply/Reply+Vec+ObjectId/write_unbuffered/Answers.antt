-- An id is missing, or something is known.
use Rattle.std.proofs.Common.{◌∙◌, refl, subst, sym}
use Rattle.std.specs.Io.KnownBytes.{Appends}
use Rattle.answer_lines.specs.Replies.{IsKnown, listed_reply, response_status, response_text}
use Rattle.answer_lines.proofs.ReplyLemmas.{missing_status, missing_told}
use Rattle.graph_commands.proofs.ToldLemmas.{told_at, wanted}
use Rattle.answer_lines.proofs.reply.«Reply+Vec+ObjectId».write_unbuffered.Goals as goal

pub returns-in_ok-write_line-in-Some : goal.returns-in_ok-write_line-in-Some
returns-in_ok-write_line-in-Some g c form =
    let reply = listed_reply c.args.self.now in
    let is = sym c.missing.ensures ∙ c.in-Some.is in
    told_at (response_text form) response_status IsKnown reply reply refl _ _ 1
    (subst (Appends _ _) (missing_told form reply c.in-Some.number is) c.in_ok-write_line-in-Some.ensures.written)
    (missing_status reply c.in-Some.number is)

pub returns-in-None : goal.returns-in-None
returns-in-None g c form =
    let reply = listed_reply c.args.self.now in
    wanted (response_text form) response_status IsKnown reply reply refl _ _ c.refuse.result refl refl
    (sym c.missing.ensures ∙ c.in-None.is) c.refuse.ensures
