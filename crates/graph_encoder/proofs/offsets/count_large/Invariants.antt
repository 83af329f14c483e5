use Rattle.std.proofs.Common.{◌≡◌, length, take}
use Rattle.graph_encoder.specs.DateOffsets.{large_offsets}
use Rattle.graph_encoder.proofs.offsets.count_large.Given as goal

abbrev pub invariant-loop-offset : goal.invariant-loop-offset
invariant-loop-offset l = l.count ≡ length (large_offsets (take l.offset-index l.offsets))
