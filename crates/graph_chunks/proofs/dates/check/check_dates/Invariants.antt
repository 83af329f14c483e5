use Rattle.std.proofs.Common.{◌≡◌, None}
use Rattle.gix_chunk_core.specs.FirstFault.{first_below}
use Rattle.graph_format.specs.StoredHistory.{history_of}
use Rattle.gix_commitgraph.specs.Graph.{start}
use Rattle.graph_chunks.specs.GraphStoredDates.{times_of}
use Rattle.graph_chunks.specs.GraphDates.{wrong_date}
use Rattle.graph_chunks.proofs.dates.check.check_dates.Given as goal

abbrev pub invariant-loop-layer : goal.invariant-loop-layer
invariant-loop-layer l = record {
  counted : l.before ≡ start l.graph l.layer;
  right : first_below (wrong_date (history_of l.graph) (times_of l.graph) l.dates) (start l.graph l.layer) ≡ None;
}
