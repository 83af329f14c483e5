use Rattle.graph_find.proofs.ReadLemmas.{begins-head, read-head}
use Rattle.graph_find.proofs.reading.read_head.Goals as goal

pub returns-in-Some-clause-begins : goal.returns-in-Some-clause-begins
returns-in-Some-clause-begins g c = λ tree is.
    begins-head _ 4104 c.in-Some.part c.head_of.result c.head_of.ensures.begins
    (rw c.in-Some.is at (c.in_ok-part.ensures.part tree is))

pub returns-in-Some-clause-given : goal.returns-in-Some-clause-given
returns-in-Some-clause-given g c =
    read-head g.T.Folder.gives_part c.args.path.now c.in-Some.part c.head_of.result
    (rw c.in-Some.is at c.in_ok-part.ensures.given) c.head_of.ensures.first
