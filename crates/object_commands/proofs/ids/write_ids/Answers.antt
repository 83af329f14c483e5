use Rattle.gix_commitgraph.specs.Graph.{graph_ids}
use Rattle.object_commands.proofs.IdLineLemmas.{adds_id}
use Rattle.object_commands.proofs.ids.write_ids.Goals as goal

pub loop-number-preserved : goal.loop-number-preserved
loop-number-preserved g c =
    adds_id (graph_ids c.args.graph.now) c.args.range.from c.loop-number.number _ _ _ _ _ c.loop-number.auto.number
    c.id_at.ensures c.loop-number.invariant c.in_ok-push_id.ensures c.in_ok-push_byte.ensures
