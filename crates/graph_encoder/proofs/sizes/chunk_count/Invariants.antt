use Rattle.std.proofs.Common.{◌≡◌, take}
use Rattle.graph_encoder.specs.Sizes.{number_there}
use Rattle.graph_encoder.proofs.sizes.chunk_count.Given as goal

abbrev pub invariant-loop-chunk : goal.invariant-loop-chunk
invariant-loop-chunk l = l.count ≡ number_there (take l.chunk-index l.chunks)
