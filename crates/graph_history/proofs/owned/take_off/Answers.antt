use Rattle.std.proofs.Common.{length, sym, ap, ◌∙◌, arith}
use Rattle.std.proofs.lemmas.List.{take_all}
use Rattle.graph_history.proofs.PushLemmas.{taken_off}
use Rattle.graph_history.proofs.owned.take_off.Goals as goal

pub loop-graph-preserved : goal.loop-graph-preserved
loop-graph-preserved c =
    (taken_off c.loop-graph.graph c.pop.new.self c.pop.result c.args.layers c.requires.some
    (omega (arith, c.loop-graph-test.true, ap length c.layers.ensures.same)) c.pop.ensures).0
    ∙ c.loop-graph.invariant

pub loop-graph-smaller : goal.loop-graph-smaller
loop-graph-smaller c =
    (taken_off c.loop-graph.graph c.pop.new.self c.pop.result c.args.layers c.requires.some
    (omega (arith, c.loop-graph-test.true, ap length c.layers.ensures.same)) c.pop.ensures).1

pub returns : goal.returns
returns c =
    sym (take_all c.args.layers c.loop-graph.graph (omega (arith, c.loop-graph-test.false, ap length c.layers.ensures.same)))
    ∙ c.loop-graph.invariant
