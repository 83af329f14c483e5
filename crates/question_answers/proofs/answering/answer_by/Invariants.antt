-- The lines so far were answered, and nothing of an answer is left in the buffer.
use Rattle.std.proofs.Common.{◌≡◌, []}
use Rattle.std.specs.Io.KnownBytes.{prepend_known}
use Rattle.question_answers.specs.AnsweredLines.{AreAnswered, MayBeTold}
use Rattle.question_answers.proofs.answering.answer_by.Given as goal

abbrev pub invariant-loop : goal.invariant-loop
invariant-loop g l = record {
  answered : AreAnswered
      (MayBeTold (g.A.Asker.may_tell (g.A.Asker.known l.fn.asker) (g.T.Folder.tree l.fn.folder)))
      (g.T.Folder.failure_count l.fn.folder) (g.T.Folder.failure_count l.folder)
      (prepend_known l.fn.lines.ahead (g.R.Read.remaining l.fn.reader))
      (prepend_known l.lines.ahead (g.R.Read.remaining l.reader))
      (g.W.Write.contents l.fn.writer) (g.W.Write.contents l.writer);
  buffer : l.buffer ≡ [];
  known : g.A.Asker.known l.asker ≡ g.A.Asker.known l.fn.asker;
  of : g.A.Asker.is_of l.asker (g.T.Folder.tree l.fn.folder);
  tree : g.T.Folder.tree l.folder ≡ g.T.Folder.tree l.fn.folder;
}
