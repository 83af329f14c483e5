-- The texts spell the ids of the question, or are not read.
use Rattle.std.proofs.Common.{◌≡◌, option_map, refl}
use Rattle.std.proofs.KnownBytes.{Keeps-refl}
use Rattle.std.specs.Io.KnownBytes.{Keeps}
use Rattle.graph_commands.specs.OpenerAnswer.{MayOpenIn}
use Rattle.history_commands.specs.SpelledQuestions.{spelled_name, spelled_texts}
use Rattle.newer_commands.specs.AskedNewer.{MayReplyNewer}
use Rattle.newer_commands.proofs.AskLemmas.{asks_newer, texts_refused}
use Rattle.newer_commands.proofs.run.run_spelled_newer.Goals as goal

pub returns-in-Ok-clause-written : goal.returns-in-Ok-clause-written
returns-in-Ok-clause-written g c =
    let left = c.run_question_newer.new.folder ≡ c.args.folder.now in
    let before = g.R.Read.remaining c.args.reader.now in
    let after = g.R.Read.remaining c.run_question_newer.new.reader in
    asks_newer c.run_question_newer.result c.args.form _ _ (spelled_name c.args.question) (spelled_texts c.args.question)
    (left × Keeps before after)
    (MayReplyNewer (option_map (λ p. p.now) c.args.path) left
    (MayOpenIn g.T.Folder c.args.folder.now c.run_question_newer.new.folder) before after)
    c.in-Ok.question c.in-Ok.ensures.named c.in-Ok.ensures.spelled c.run_question_newer.ensures.written

pub returns-in-Err-clause-written : goal.returns-in-Err-clause-written
returns-in-Err-clause-written g c =
    texts_refused c.refuse_at_once.result c.args.form _ _ (spelled_name c.args.question) (spelled_texts c.args.question) _ _
    c.in-Err.refusal c.in-Err.ensures.refused (refl, Keeps-refl (g.R.Read.remaining c.args.reader.now))
    (c.refuse_at_once.ensures c.args.form)
