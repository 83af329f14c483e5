use Rattle.std.proofs.Common.{◌≡◌, ◌+◌, length, take, arith}
use Rattle.graph_encoder.specs.DateOffsets.{large_offsets}
use Rattle.graph_encoder.proofs.OffsetLemmas.{large_before-few}
use Rattle.graph_encoder.proofs.SizeLemmas.{large-counted}
use Rattle.graph_encoder.proofs.offsets.count_large.Goals as goal

-- one more offset is counted, if it is large
more : (c : goal.After-from-count)
    → c.loop-offset.count + c.from-count.result
    ≡ length (large_offsets (take (c.loop-offset.offset-index + 1) c.args.offsets.now))
more c =
    large-counted c.args.offsets.now c.loop-offset.offset-index c.loop-offset.count c.from-count.result c.is_large.result
    c.loop-offset-test.true c.loop-offset.invariant c.is_large.ensures c.from-count.ensures

pub overflow_add-count : goal.overflow_add-count
overflow_add-count c =
    omega (arith, more c, large_before-few c.args.offsets.now (c.loop-offset.offset-index + 1) (omega arith), c.requires)

pub loop-offset-preserved : goal.loop-offset-preserved
loop-offset-preserved c = more c
