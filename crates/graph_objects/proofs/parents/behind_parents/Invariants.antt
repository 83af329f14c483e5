use Rattle.std.proofs.Common.{length}
use Rattle.graph_layer.specs.RemainingParents.{parents_left}
use Rattle.graph_objects.proofs.WrittenLemmas.{ArePassed}
use Rattle.graph_objects.proofs.parents.behind_parents.Given as goal

abbrev pub invariant-loop-item : goal.invariant-loop-item
invariant-loop-item l =
    ArePassed l.graph l.kind (parents_left l.initial.recorded) l.initial.rest (parents_left l.recorded) l.rest

abbrev pub decreases-loop-item : goal.decreases-loop-item
decreases-loop-item l = length (parents_left l.recorded)
