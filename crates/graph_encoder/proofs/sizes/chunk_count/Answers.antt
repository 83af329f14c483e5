use Rattle.std.proofs.Common.{◌≡◌, ◌+◌, take, arith}
use Rattle.graph_encoder.specs.Sizes.{number_there}
use Rattle.graph_encoder.proofs.SizeLemmas.{chunk-counted, number-few}
use Rattle.graph_encoder.proofs.sizes.chunk_count.Goals as goal

-- one more chunk is counted, if it is there
more : (c : goal.After-from-count)
    → c.loop-chunk.count + c.from-count.result ≡ number_there (take (c.loop-chunk.chunk-index + 1) c.args.chunks.now)
more c =
    chunk-counted c.args.chunks.now c.loop-chunk.chunk-index c.loop-chunk.count c.from-count.result c.is_some.result
    c.loop-chunk-test.true c.loop-chunk.invariant c.is_some.ensures c.from-count.ensures

pub overflow_add-count : goal.overflow_add-count
overflow_add-count c =
    omega (arith, more c, number-few c.args.chunks.now (c.loop-chunk.chunk-index + 1) (omega arith), c.requires)

pub loop-chunk-preserved : goal.loop-chunk-preserved
loop-chunk-preserved c = more c
