-- The line is that of the parents, or says that the id is missing.
use Rattle.std.proofs.Common.{[], ◌∷◌, refl, sym}
use Rattle.std.specs.Prelude.{Ok}
use Rattle.gix_hash_core.specs.Oid.{oid_bytes}
use Rattle.graph_walks.specs.History.{parents_at}
use Rattle.graph_format.specs.StoredHistory.{history_of}
use Rattle.gix_commitgraph.specs.IdWalks.{ids_at}
use Rattle.answers.specs.FoundOf.{OfOne}
use Rattle.answers.specs.declared.answer.Answer.TheVariants.{Known, Unknown}
use Rattle.answers.proofs.FoundLemmas.{first_missing}
use Rattle.answer_lines.specs.declared.reply.Reply.TheVariants as reply
use Rattle.history_commands.specs.CheckedReplies.{AreParentIds, Scans}
use Rattle.history_commands.proofs.AskLemmas.{adds}
use Rattle.question_lines.specs.declared.question.Question.TheVariants as question
use Rattle.history_commands.proofs.asker.tell_parents.Goals as goal

pub returns-in-Some : goal.returns-in-Some
returns-in-Some g c =
    let layers = c.args.graph.now.layers in
    let p = c.in-Some.pos.0 in
    adds c.push_parents_of.result layers (question.Parents (oid_bytes c.args.id))
    (Ok (reply.Parents (Known (ids_at layers (parents_at (history_of layers) p))))) _ _
    (p ∷ [], (sym c.in-Some.ensures.scanned, tt), refl) c.push_parents_of.ensures

pub returns-in-None : goal.returns-in-None
returns-in-None g c =
    let layers = c.args.graph.now.layers in
    adds c.push_missing.result layers (question.Parents (oid_bytes c.args.id)) (Ok (reply.Parents (Unknown 1))) _ _
    (first_missing (Scans layers) (OfOne (AreParentIds layers)) (oid_bytes c.args.id) [] (sym c.in-None.ensures.scanned))
    c.push_missing.ensures
