use Rattle.std.proofs.Common.{◌≡◌, None}
use Rattle.gix_chunk_core.specs.FirstFault.{first_below}
use Rattle.gix_commitgraph.specs.Graph.{start}
use Rattle.graph_chunks.specs.GraphDates.{reading_fault}
use Rattle.graph_chunks.proofs.dates.stored.reading_refusal.Given as goal

abbrev pub invariant-loop-layer : goal.invariant-loop-layer
invariant-loop-layer l = record {
  read : first_below (reading_fault l.layers) l.layer ≡ None;
  counted : l.before ≡ start l.layers l.layer;
}
