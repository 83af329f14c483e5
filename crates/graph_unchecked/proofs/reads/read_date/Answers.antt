-- More is read of the same files.
use Rattle.graph_unchecked.proofs.DatedLemmas.{date-told}
use Rattle.graph_unchecked.proofs.SourceLemmas.{reads_on}
use Rattle.graph_unchecked.proofs.reads.read_date.Goals as goal

pub returns-in_err-date-clause-reads : goal.returns-in_err-date-clause-reads
returns-in_err-date-clause-reads g c =
    reads_on (g.T.Folder.tree c.args.folder.now) c.args.parts.now c.date_at.new.self c.date_at.ensures.parts
    c.date_at.ensures.sees

pub returns-in-Some-clause-reads : goal.returns-in-Some-clause-reads
returns-in-Some-clause-reads g c =
    reads_on (g.T.Folder.tree c.args.folder.now) c.args.parts.now c.date_at.new.self c.date_at.ensures.parts
    c.date_at.ensures.sees

pub returns-in-Some-clause-date : goal.returns-in-Some-clause-date
returns-in-Some-clause-date g c =
    date-told (g.T.Folder.tree c.args.folder.now) c.date_at.new.self c.args.pos.0 c.in-Some.date
    (rw c.in-Some.is at c.in_ok-date.ensures.stores)

pub returns-in-None-clause-reads : goal.returns-in-None-clause-reads
returns-in-None-clause-reads g c =
    reads_on (g.T.Folder.tree c.args.folder.now) c.args.parts.now c.date_at.new.self c.date_at.ensures.parts
    c.date_at.ensures.sees
