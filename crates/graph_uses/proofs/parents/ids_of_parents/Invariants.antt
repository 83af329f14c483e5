use Rattle.std.proofs.Common.{◌≡◌, ◌<◌, ◌++◌, All, map}
use Rattle.gix_commitgraph.specs.Graph.{total}
use Rattle.gix_commitgraph.specs.History.{parents_at}
use Rattle.gix_commitgraph.specs.IdWalks.{ids_at}
use Rattle.gix_commitgraph.specs.StoredHistory.{history_of}
use Rattle.graph_uses.proofs.parents.ids_of_parents.Given as goal

-- the ids so far, and then those of the parents left, are the ids of all parents
abbrev pub invariant-loop-parent : goal.invariant-loop-parent
invariant-loop-parent l = record {
  within : All (λ q. q.0 < total l.graph.layers) l.parent-iterator;
  exact : ids_at l.graph.layers (parents_at (history_of l.graph.layers) l.fn.pos.0)
      ≡ l.ids.items ++ ids_at l.graph.layers (map (λ q. q.0) l.parent-iterator);
}
