use Rattle.std.proofs.Common.{◌≡◌, ◌++◌}
use Rattle.std.specs.Prelude.{map}
use Rattle.gix_hash_core.specs.Oid.{front_of}
use Rattle.gix_commitgraph.specs.Graph.{graph_ids}
use Rattle.gix_commitgraph.specs.GraphRemaining.{graph_ids_left}
use Rattle.gix_commitgraph.proofs.graph.Graph.has_distinct_fronts.Given as goal

abbrev pub invariant-loop-id : goal.invariant-loop-id
invariant-loop-id l = record {
  whole : l.fronts.items ++ map front_of (graph_ids_left l.id-iterator) ≡ map front_of (graph_ids l.self);
}
