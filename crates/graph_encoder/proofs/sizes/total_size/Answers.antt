use Rattle.std.proofs.Common.{◌≡◌, ◌+◌, drop, arith}
use Rattle.graph_encoder.specs.Sizes.{total_size}
use Rattle.graph_encoder.proofs.SizeLemmas.{total-step}
use Rattle.graph_encoder.proofs.sizes.total_size.Goals as goal

-- the bytes of this chunk and of those before it are some of all
step : (c : goal.After-unwrap_or-total)
    → c.loop-chunk.total + c.unwrap_or-total.result + total_size (drop (c.loop-chunk.chunk-index + 1) c.args.chunks.now)
    ≡ total_size c.args.chunks.now
step c =
    total-step c.args.chunks.now c.loop-chunk.chunk-index c.loop-chunk.total c.unwrap_or-total.result
    (total_size c.args.chunks.now) c.loop-chunk-test.true c.unwrap_or-total.ensures c.loop-chunk.invariant

pub overflow_add-total : goal.overflow_add-total
overflow_add-total c = omega (arith, step c, c.requires)

pub loop-chunk-preserved : goal.loop-chunk-preserved
loop-chunk-preserved c = step c
