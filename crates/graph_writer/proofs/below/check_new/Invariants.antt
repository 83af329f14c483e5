use Rattle.std.proofs.Common.{◌≡◌, None}
use Rattle.gix_chunk_core.specs.FirstFault.{first_below}
use Rattle.gix_commitgraph.specs.Graph.{graph_ids}
use Rattle.graph_writer.specs.WriteRefusal.{below_at}
use Rattle.graph_writer.proofs.below.check_new.Given as goal

abbrev pub invariant-loop-number : goal.invariant-loop-number
invariant-loop-number g l = first_below (below_at (graph_ids l.graph.layers) l.commits) l.number ≡ None
