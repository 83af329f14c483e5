-- What was asked for, an empty line, and then what is told.
use Rattle.std.proofs.Common.{ℕ, List, Option}
use Rattle.newer_commands.specs.AskedReply.{listed_verdict}
use Rattle.newer_commands.specs.KindOver.{layers_of_base}
use Rattle.newer_commands.proofs.TellLemmas.{tells_over}
use Rattle.newer_commands.proofs.answer.answer_over.Goals as goal

pub returns : goal.returns
returns g c =
    let known : Option (List ℕ) = g.R.Read.remaining c.args.reader.now in
    tells_over c.tell_at_last.result c.args.form (layers_of_base c.args.base) known c.args.question.now
    (listed_verdict c.in_ok-verdict.verdict) _ _ _ c.in_ok-verdict.ensures c.tell_at_last.ensures
