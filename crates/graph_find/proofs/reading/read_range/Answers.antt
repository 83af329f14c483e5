use Rattle.graph_find.proofs.ReadLemmas.{range-bytes, range-read}
use Rattle.graph_find.proofs.reading.read_range.Goals as goal

pub returns-in-Some-clause-part : goal.returns-in-Some-clause-part
returns-in-Some-clause-part g c = λ tree is.
    range-bytes _ c.args.start c.args.len c.args.file_len c.in-Some.part c.bytes_of.result c.bytes_of.ensures
    (rw c.in-Some.is at (c.in_ok-part.ensures.part tree is))

pub returns-in-Some-clause-given : goal.returns-in-Some-clause-given
returns-in-Some-clause-given g c =
    range-read g.T.Folder.gives_part c.args.path.now c.args.start c.args.len c.args.file_len c.in-Some.part c.bytes_of.result
    c.bytes_of.ensures (rw c.in-Some.is at c.in_ok-part.ensures.given)
