-- The ids so far, and those at the positions of the parents that are left, are those of all parents.
use Rattle.std.proofs.Common.{◌≡◌, ◌<◌, ◌++◌, All, Some, map, slice_get}
use Rattle.graph_walks.specs.History.{parents_at}
use Rattle.graph_format.specs.StoredHistory.{history_of}
use Rattle.gix_commitgraph.specs.Graph.{graph_ids, total}
use Rattle.write_commands.proofs.graph_commits.ids_of_parents.Given as goal

abbrev pub invariant-loop-parent : goal.invariant-loop-parent
invariant-loop-parent l = record {
  within : All (λ q. q.0 < total l.graph.layers) l.parent-iterator;
  held : map (slice_get (graph_ids l.graph.layers)) (parents_at (history_of l.graph.layers) l.fn.pos.0)
      ≡ map (λ id. Some id) l.ids.items ++ map (slice_get (graph_ids l.graph.layers)) (map (λ q. q.0) l.parent-iterator);
}
