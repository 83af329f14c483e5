-- What is told is an answer that may be given.
use Rattle.std.proofs.Common.{◌≡◌, ◌∙◌, List, ap, refl, subst}
use Rattle.std.specs.Prelude.{Ok, Err}
use Rattle.graph_format.specs.Layer.{Layer}
use Rattle.graph_history.specs.RightGraph.{CheckedLayers}
use Rattle.answer_lines.specs.Replies.{IsKnown, listed_reply, response_status, response_text}
use Rattle.graph_commands.specs.OpenerAnswer.{MayOpen}
use Rattle.graph_commands.proofs.ToldLemmas.{tells, writes_refused}
use Rattle.history_commands.specs.AskedOnce.{MayReplyAt}
use Rattle.history_commands.specs.CheckedReplies.{MayReplyOver}
use Rattle.history_commands.proofs.AskLemmas.{refused_to_start, replies_over, wants}
use Rattle.history_commands.proofs.run.run_question.Goals as goal

pub returns-in-Err-clause-written : goal.returns-in-Err-clause-written
returns-in-Err-clause-written g c =
    let opens = MayOpen (g.T.Folder.tree c.args.folder.now) c.args.path.now (g.T.Folder.failure_count c.args.folder.now)
    (g.T.Folder.failure_count c.open_checked.new.folder) in
    writes_refused (response_text c.args.form) response_status _ c.in-Err.refusal _ _ c.refuse.result refl refl
    (refused_to_start opens c.args.question.now c.in-Err.refusal c.in-Err.ensures.refused) c.refuse.ensures

pub returns-in-Ok-search-clause-written : goal.returns-in-Ok-search-clause-written
returns-in-Ok-search-clause-written g c =
    let opens = MayOpen (g.T.Folder.tree c.args.folder.now) c.args.path.now (g.T.Folder.failure_count c.args.folder.now)
    (g.T.Folder.failure_count c.open_checked.new.folder) in
    let asked = c.args.question.now in
    let layers = c.in-Ok.graph.layers in
    let reply = listed_reply c.in-Ok-search.reply in
    let stand : c.new-asker.result ≡ layers =
    c.new-asker.ensures ∙ ap (λ (v : CheckedLayers). v.layers) c.as_checked-checked.ensures.same in
    let is = subst (λ (those : List Layer). MayReplyOver those asked (Ok reply)) stand c.in-Ok-search.ensures.reply in
    let may = replies_over opens layers asked (Ok reply) c.in-Ok.ensures.opened c.in-Ok.ensures.right is in
    tells (MayReplyAt opens asked) IsKnown reply may (wants opens asked reply c.requires may)
    (response_text c.args.form) response_status _ _ c.write.result c.write.ensures

pub returns-clause-written : goal.returns-clause-written
returns-clause-written g c =
    let opens = MayOpen (g.T.Folder.tree c.args.folder.now) c.args.path.now (g.T.Folder.failure_count c.args.folder.now)
    (g.T.Folder.failure_count c.open_checked.new.folder) in
    let asked = c.args.question.now in
    let layers = c.in-Ok.graph.layers in
    let refusal = c.in-Err-search.refusal in
    let stand : c.new-asker.result ≡ layers =
    c.new-asker.ensures ∙ ap (λ (v : CheckedLayers). v.layers) c.as_checked-checked.ensures.same in
    let refused = c.in-Err-search.ensures.refused in
    let is = subst (λ (those : List Layer). MayReplyOver those asked (Err refusal)) stand
    (refused.0, (c.requires, refused.1)) in
    writes_refused (response_text c.args.form) response_status _ refusal _ _ c.refuse-in-Err-search.result refl refl
    (replies_over opens layers asked (Err refusal) c.in-Ok.ensures.opened c.in-Ok.ensures.right is)
    c.refuse-in-Err-search.ensures
