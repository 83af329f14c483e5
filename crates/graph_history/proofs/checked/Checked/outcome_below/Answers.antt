use Rattle.std.proofs.Common.{length, ap, arith}
use Rattle.graph_history.proofs.LowestLemmas.{sound-lowest}
use Rattle.graph_history.proofs.checked.Checked.outcome_below.Goals as goal

pub outcome_of_lowest-requires-clause-sound : goal.outcome_of_lowest-requires-clause-sound
outcome_of_lowest-requires-clause-sound c =
    sound-lowest c.self.inside.graph.now c.args.layers c.layers.ensures.graph.opened
    (omega (arith, c.if-layers.true, ap length c.layers.ensures.same)) c.self.invariant.sound.sound
