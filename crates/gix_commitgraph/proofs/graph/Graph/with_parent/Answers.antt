use Rattle.std.proofs.Common.{◌≡◌, max, refl, arith}
use Rattle.graph_format.specs.StoredHistory.{history_of}
use Rattle.graph_walks.specs.History.{generation_at}
use Rattle.gix_commitgraph.proofs.check.EdgeListLemmas.{one_before, refused_before}
use Rattle.gix_commitgraph.proofs.graph.Graph.with_parent.Goals as goal

pub returns-in_err-others-clause-tally : goal.returns-in_err-others-clause-tally
returns-in_err-others-clause-tally c = λ parents known.
    rw c.from_residual.ensures
    (refused_before (history_of c.args.self.now) c.args.span.stop parents c.args.pos (rw c.in_err-others.was at known))

pub returns-clause-tally : goal.returns-clause-tally
returns-clause-tally c = λ parents known.
    let most : c.max.result ≡ max (generation_at (history_of c.args.self.now) c.args.pos.0) c.in_ok-others.others.max_generation =
    omega (arith, c.max.ensures, c.generation_at.ensures) in
    one_before (history_of c.args.self.now) c.args.span.stop parents c.args.pos c.in_ok-others.others _
    (rw c.in_ok-others.was at known) c.if-pos-span.false refl most
