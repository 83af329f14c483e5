-- More is read of the same files.
use Rattle.graph_unchecked.proofs.SourceLemmas.{reads_on}
use Rattle.graph_unchecked.proofs.reads.read_number.Goals as goal

pub returns-in_err-commit-clause-reads : goal.returns-in_err-commit-clause-reads
returns-in_err-commit-clause-reads g c =
    reads_on (g.T.Folder.tree c.args.folder.now) c.args.parts.now c.commit_at.new.self c.commit_at.ensures.parts
    c.commit_at.ensures.sees

pub returns-in_default-clause-reads : goal.returns-in_default-clause-reads
returns-in_default-clause-reads g c =
    reads_on (g.T.Folder.tree c.args.folder.now) c.args.parts.now c.commit_at.new.self c.commit_at.ensures.parts
    c.commit_at.ensures.sees

pub returns-clause-reads : goal.returns-clause-reads
returns-clause-reads g c =
    reads_on (g.T.Folder.tree c.args.folder.now) c.args.parts.now c.commit_at.new.self c.commit_at.ensures.parts
    c.commit_at.ensures.sees
