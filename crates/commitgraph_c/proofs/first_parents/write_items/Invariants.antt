use Rattle.std.proofs.Common.{◌≤◌, length}
use Rattle.graph_layer.specs.Commit.{commit_parents}
use Rattle.graph_layer.specs.RemainingParents.{parents_left}
use Rattle.commitgraph_c.proofs.ParentRoom.{AreSeen}
use Rattle.commitgraph_c.proofs.first_parents.write_items.Given as goal

abbrev pub invariant-loop-parent : goal.invariant-loop-parent
invariant-loop-parent l =
    AreSeen (commit_parents l.commit) l.count l.initial.out l.out (parents_left l.parent-iterator)
    × (l.count ≤ length l.initial.out)
