-- There is no memory for a line.
use Rattle.std.proofs.Common.{[], refl}
use Rattle.std.proofs.KnownBytes.{Appends-nil}
use Rattle.graph_folder.specs.declared.folder.ReadError.TheVariants.{OutOfMemory}
use Rattle.question_answers.proofs.ReadLemmas.{lines_failed, reads_none}
use Rattle.unchecked_questions.proofs.trusting.answer_all.Goals as goal

pub returns-in_default-clause-answered : goal.returns-in_default-clause-answered
returns-in_default-clause-answered g c =
    let input = g.R.Read.remaining c.args.reader.now in (
      [],
      refl,
      lines_failed input input input [] OutOfMemory (reads_none input) (λ is. cc),
      Appends-nil (g.W.Write.contents c.args.writer.now),
    )
