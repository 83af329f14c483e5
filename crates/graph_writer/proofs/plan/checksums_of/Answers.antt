use Rattle.std.proofs.Common.{◌++◌, ◌∷◌, [], ℕ, List, ap, ◌∙◌, arith}
use Rattle.graph_format.specs.Layer.{Layer}
use Rattle.graph_writer.proofs.positions.LoopSteps.{mapped-more}
use Rattle.graph_writer.proofs.plan.checksums_of.Goals as goal

pub loop-layer-preserved : goal.loop-layer-preserved
loop-layer-preserved c =
    let item : Layer = c.layer-item.result in
    c.in_ok-push.ensures.items
    ∙ ap (λ (id : List ℕ). c.loop-layer.checksums.items ++ id ∷ []) (c.to_owned.ensures ∙ c.checksum.ensures)
    ∙ mapped-more (λ (layer : Layer). layer.checksum) c.args.layers.now c.loop-layer.checksums.items item c.loop-layer.layer-index
    (omega arith) c.layer-item.is c.loop-layer.invariant
