use Rattle.std.proofs.Common.{◌≡◌, ◌++◌, take}
use Rattle.graph_encoder.specs.DateOffsets.{large_offsets}
use Rattle.graph_encoder.specs.Written.{longs_bytes}
use Rattle.graph_encoder.proofs.offsets.push_large_offsets.Given as goal

abbrev pub invariant-loop-offset : goal.invariant-loop-offset
invariant-loop-offset l =
    l.file.items ≡ l.initial.file.items ++ longs_bytes (large_offsets (take l.offset-index l.offsets))
