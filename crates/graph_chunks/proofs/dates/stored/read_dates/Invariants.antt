use Rattle.std.proofs.Common.{◌≡◌, ◌<◌, ◌^◌, All, None}
use Rattle.gix_chunk_core.specs.FirstFault.{first_below}
use Rattle.graph_chunks.specs.GraphDates.{reading_fault}
use Rattle.graph_chunks.proofs.StoredDateLemmas.{dates_below}
use Rattle.graph_chunks.proofs.dates.stored.read_dates.Given as goal

abbrev pub invariant-loop-layer : goal.invariant-loop-layer
invariant-loop-layer l = record {
  dates : l.dates.items ≡ dates_below l.layers l.layer;
  small : All (λ date. date < 2 ^ 63) l.dates.items;
  read : first_below (reading_fault l.layers) l.layer ≡ None;
}
