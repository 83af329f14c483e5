-- The first ids are written.
use Rattle.std.proofs.Common.{take}
use Rattle.gix_commitgraph.specs.Graph.{graph_ids}
use Rattle.commitgraph_c.proofs.IdRoom.{AreWrittenIds}
use Rattle.commitgraph_c.proofs.lookups.write_ids.Given as goal

abbrev pub invariant-loop-place : goal.invariant-loop-place
invariant-loop-place l = AreWrittenIds (graph_ids l.graph) (take l.place l.positions) l.size l.initial.out l.out
