use Rattle.std.proofs.Common.{◌≡◌, map, take}
use Rattle.graph_writer.proofs.plan.checksums_of.Given as goal

abbrev pub invariant-loop-layer : goal.invariant-loop-layer
invariant-loop-layer l = l.checksums.items ≡ map (λ layer. layer.checksum) (take l.layer-index l.layers)
