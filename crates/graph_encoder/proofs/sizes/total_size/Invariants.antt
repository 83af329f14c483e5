use Rattle.std.proofs.Common.{◌≡◌, ◌+◌, drop}
use Rattle.graph_encoder.specs.Sizes.{total_size}
use Rattle.graph_encoder.proofs.sizes.total_size.Given as goal

-- the bytes so far and those that are left are all bytes
abbrev pub invariant-loop-chunk : goal.invariant-loop-chunk
invariant-loop-chunk l = l.total + total_size (drop l.chunk-index l.chunks) ≡ total_size l.chunks
