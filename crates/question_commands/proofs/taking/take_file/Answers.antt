-- The graph of the file, as it was read.
use Rattle.gix_commitgraph.specs.Opening.{file_opened}
use Rattle.gix_commitgraph.specs.WasRead.{FileWasRead}
use Rattle.graph_commands.specs.OpenerAnswer.{OpensStopping}
use Rattle.question_commands.proofs.TakingLemmas.{takes_read}
use Rattle.question_commands.proofs.taking.take_file.Goals as goal

pub returns-clause-taken : goal.returns-clause-taken
returns-clause-taken g c =
    let path = c.args.path.now in
    let was = c.in_ok-opened.ensures in
    takes_read (OpensStopping (g.T.Folder.tree c.args.folder.now) (λ tree. file_opened tree path) _ _)
    (FileWasRead g.T.Folder.gives path) c.in_ok-opened.opened _ _ c.take_opened.result ((was.opens, was.graph), was.failures)
    was.given c.take_opened.ensures.taken
