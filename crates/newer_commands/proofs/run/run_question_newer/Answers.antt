-- What is told over the graph at the path, or why there is none.
use Rattle.std.proofs.Common.{◌≡◌, ℕ, List, Option, Some, ap, option_map, subst, sym}
use Rattle.std.specs.Prelude.{IfOk}
use Rattle.graph_format.specs.Layer.{Layer}
use Rattle.graph_history.specs.RightGraph.{CheckedLayers}
use Rattle.graph_commands.specs.OpenerAnswer.{MayOpenIn}
use Rattle.graph_commands.specs.WrittenAnswer.{WritesAnswer}
use Rattle.newer_commands.specs.AskedNewer.{MayReplyNewer}
use Rattle.newer_commands.specs.AskedReply.{asked_status, asked_text}
use Rattle.newer_commands.specs.RepliesOnTop.{MayTellOver}
use Rattle.newer_commands.proofs.AskLemmas.{graph_refused, replies_graph}
use Rattle.newer_commands.proofs.run.run_question_newer.Goals as goal

pub returns-in-Ok-clause-written : goal.returns-in-Ok-clause-written
returns-in-Ok-clause-written g c =
    let result = c.answer_in-in-Ok.result in
    let form = c.args.form in
    let asked = c.args.question.now in
    let left = c.open_checked.new.folder ≡ c.args.folder.now in
    let opens = MayOpenIn g.T.Folder c.args.folder.now c.open_checked.new.folder in
    let before : Option (List ℕ) = g.R.Read.remaining c.args.reader.now in
    let after : Option (List ℕ) = g.R.Read.remaining c.answer_in-in-Ok.new.reader in
    let old : Option (List ℕ) = g.W.Write.contents c.args.writer.now in
    let new : Option (List ℕ) = g.W.Write.contents c.answer_in-in-Ok.new.writer in
    subst
    (λ (path : Option (List ℕ)). IfOk result
    (WritesAnswer (asked_text form) asked_status (MayReplyNewer path left opens before after asked) old new))
    (sym (ap (option_map (λ p. p.now)) c.in-Some.is))
    (replies_graph result form old new left opens before after asked c.in-Some.path.now c.in-Ok.graph.layers
    c.in-Ok.ensures.opened c.in-Ok.ensures.right
    (subst
    (λ (layers : List Layer). IfOk result (WritesAnswer (asked_text form) asked_status (MayTellOver layers before asked) old new))
    (ap (λ (v : CheckedLayers). v.layers) c.as_checked.ensures.same) c.answer_in-in-Ok.ensures))

pub returns-in-Err-clause-written : goal.returns-in-Err-clause-written
returns-in-Err-clause-written g c =
    let result = c.refuse_at_once.result in
    let form = c.args.form in
    let asked = c.args.question.now in
    let left = c.open_checked.new.folder ≡ c.args.folder.now in
    let opens = MayOpenIn g.T.Folder c.args.folder.now c.open_checked.new.folder in
    let before : Option (List ℕ) = g.R.Read.remaining c.args.reader.now in
    let old : Option (List ℕ) = g.W.Write.contents c.args.writer.now in
    let new : Option (List ℕ) = g.W.Write.contents c.refuse_at_once.new.writer in
    subst
    (λ (path : Option (List ℕ)). IfOk result
    (WritesAnswer (asked_text form) asked_status (MayReplyNewer path left opens before before asked) old new))
    (sym (ap (option_map (λ p. p.now)) c.in-Some.is))
    (graph_refused result form old new left opens before asked c.in-Some.path.now c.in-Err.refusal c.in-Err.ensures.refused
    (c.refuse_at_once.ensures form))
