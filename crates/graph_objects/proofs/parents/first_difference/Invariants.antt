use Rattle.std.proofs.Common.{◌+◌, ◌≤◌, ◌^◌, length}
use Rattle.graph_layer.specs.RemainingParents.{parents_left}
use Rattle.gix_commitgraph.specs.Graph.{graph_ids}
use Rattle.graph_objects.specs.Matching.{ids_of_items}
use Rattle.graph_objects.proofs.ParentLemmas.{AreBehind}
use Rattle.graph_objects.proofs.parents.first_difference.Given as goal

abbrev pub invariant-loop-id : goal.invariant-loop-id
invariant-loop-id l = record {
  behind : AreBehind (ids_of_items (graph_ids l.graph) (parents_left l.initial.recorded))
      (ids_of_items (graph_ids l.graph) (parents_left l.recorded)) l.initial.named l.named l.index;
  few : l.index + length (parents_left l.recorded) ≤ 2 ^ 32;
}

abbrev pub decreases-loop-id : goal.decreases-loop-id
decreases-loop-id l = length (parents_left l.recorded)
