use Rattle.std.proofs.Common.{length, ap, arith}
use Rattle.graph_layer.proofs.ParentBoundLemmas.{left-listed}
use Rattle.graph_layer.proofs.file.parents.ParentsIterator.size_hint.Goals as goal

pub returns-then-self-2-clause-none : goal.returns-then-self-2-clause-none
returns-then-self-2-clause-none c none =
    let p = c.args.self.now in
    absurd (omega (arith, left-listed p.started p.next p.after p.file.now.edges c.if-self-2.true c.if-self.true, ap length none))
