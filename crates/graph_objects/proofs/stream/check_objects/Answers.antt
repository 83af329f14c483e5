use Rattle.std.proofs.Common.{◌≡◌, arith}
use Rattle.graph_objects.proofs.StreamLemmas.{one_known, some_left}
use Rattle.graph_objects.proofs.stream.check_objects.Goals as goal

pub loop-number-preserved : goal.loop-number-preserved
loop-number-preserved g c = one_known c.args.graph.now c.args.from c.loop-number.number _ _ _ c.loop-number.invariant
    (rw c.look_ahead.ensures at c.in_ok-check_next.ensures.ok)

pub returns-then-branch-clause-refused : goal.returns-then-branch-clause-refused
returns-then-branch-clause-refused g c =
    let at_end : c.loop-number.number ≡ c.args.to = omega arith in
    some_left c.args.graph.now c.args.from c.args.to (g.R.Read.remaining c.args.reader.now)
    (g.R.Read.remaining c.loop-number.reader)
    (g.R.Read.remaining c.fill.new.reader) c.loop-number.buffer c.fill.new.self (rw at_end at c.loop-number.invariant)
    c.in_ok-fill.ensures.kept
    (omega (arith, c.in_ok-fill.ensures.enough.0 c.if-branch.true))
