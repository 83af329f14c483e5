use Rattle.std.proofs.Common.{◌≡◌, map}
use Rattle.graph_layer.specs.Commit.{commit_parents}
use Rattle.graph_format.specs.Parents.{items_of}
use Rattle.graph_layer.specs.RemainingParents.{parents_left}
use Rattle.graph_format.specs.Points.{first_some}
use Rattle.gix_commitgraph.specs.Verify.{item_refusal}
use Rattle.gix_commitgraph.proofs.graph.Graph.refused_parent.Given as goal

-- the first refusal is that of the items left
abbrev pub invariant-loop-parent : goal.invariant-loop-parent
invariant-loop-parent g l =
    first_some (map (item_refusal {E = g.row.E.Denot} l.pos.0 l.span.stop) (items_of (commit_parents l.commit)))
    ≡ first_some (map (item_refusal l.pos.0 l.span.stop) (parents_left l.parent-iterator))
