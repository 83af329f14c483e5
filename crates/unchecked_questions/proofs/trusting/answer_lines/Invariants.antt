-- The lines so far were answered, over what was kept then, and what is kept is still of the path.
use Rattle.std.proofs.Common.{◌≡◌, []}
use Rattle.std.specs.Io.KnownBytes.{prepend_known}
use Rattle.graph_commands.specs.OpenerAnswer.{MayOpen}
use Rattle.question_answers.specs.AnsweredLines.{AreAnswered}
use Rattle.unchecked_questions.specs.KeptGraphs.{IsKeptAt}
use Rattle.unchecked_questions.specs.Trusting.{MayTellTrusted}
use Rattle.unchecked_questions.proofs.trusting.answer_lines.Given as goal

abbrev pub invariant-loop : goal.invariant-loop
invariant-loop g l = record {
  answered : AreAnswered (MayTellTrusted (MayOpen (g.T.Folder.tree l.fn.folder) l.fn.asker.path.now))
      (g.T.Folder.failure_count l.fn.folder)
      (g.T.Folder.failure_count l.folder) (g.R.Read.remaining l.fn.reader)
      (prepend_known l.lines.ahead (g.R.Read.remaining l.reader))
      (g.W.Write.contents l.fn.writer) (g.W.Write.contents l.writer);
  kept : IsKeptAt (g.T.Folder.tree l.fn.folder) l.fn.asker.path.now l.asker.kept;
  path : l.asker.path.now ≡ l.fn.asker.path.now;
  buffer : l.buffer ≡ [];
  tree : g.T.Folder.tree l.folder ≡ g.T.Folder.tree l.fn.folder;
}
