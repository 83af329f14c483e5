use Rattle.std.proofs.Common.{◌≡◌, ℕ, ◌+◌, ◌<◌, None, length}
use Rattle.std.specs.Prelude.{slice_index_or}
use Rattle.gix_commitgraph.specs.Tallies.{IsGathered}
use Rattle.gix_commitgraph.proofs.graph.Graph.gather.Given as goal

abbrev pub invariant-loop-index : goal.invariant-loop-index
invariant-loop-index l = record {
  sized : length l.batch ≡ 256;
  gathered : (i : ℕ) → i < l.index → IsGathered l.self l.span (l.first + i) (slice_index_or l.batch i None);
}
