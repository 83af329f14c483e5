-- The position lies in this layer.
use Rattle.std.proofs.Common.{◌<◌, length, refl, arith}
use Rattle.std.proofs.lemmas.Option.{slice_get_read}
use Rattle.graph_parts.proofs.GraphPartLemmas.{spot-here}
use Rattle.graph_parts.proofs.parts.GraphParts.spot_of.Goals as goal

pub returns-then-left-commits : goal.returns-then-left-commits
returns-then-left-commits c =
    let items = c.deref-part-items.result.now in
    let within : c.loop-layer.layer < length items = omega (arith, c.loop-layer-test.true) in
    spot-here c.args.self.now c.args.pos.0 c.loop-layer.layer c.loop-layer.left c.part-item.result c.loop-layer.invariant
    (rw c.deref-part-items.ensures.value at
    (slice_get_read items (length items) c.loop-layer.layer c.part-item.result refl within c.part-item.is))
    c.if-left-commits.true
