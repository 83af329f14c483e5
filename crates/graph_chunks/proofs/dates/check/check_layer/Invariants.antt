use Rattle.std.proofs.Common.{◌≡◌, ◌+◌, None}
use Rattle.gix_chunk_core.specs.FirstFault.{first_below}
use Rattle.graph_format.specs.StoredHistory.{history_of}
use Rattle.graph_chunks.specs.GraphStoredDates.{times_of}
use Rattle.graph_chunks.specs.GraphDates.{wrong_date}
use Rattle.graph_chunks.proofs.dates.check.check_layer.Given as goal

abbrev pub invariant-loop-place : goal.invariant-loop-place
invariant-loop-place l =
    first_below (wrong_date (history_of l.graph) (times_of l.graph) l.dates) (l.before + l.place) ≡ None
