use Rattle.std.proofs.Common.{◌≡◌, ◌<◌, [], All, heap_items}
use Rattle.gix_commitgraph.specs.Graph.{total}
use Rattle.gix_commitgraph.specs.StoredHistory.{history_of}
use Rattle.commit_search.specs.Positions.{numbers_of}
use Rattle.graph_uses.proofs.WalkingLemmas.{IsWalking, work}
use Rattle.graph_uses.proofs.walking.ancestor_positions.Given as goal

abbrev pub invariant-loop-next : goal.invariant-loop-next
invariant-loop-next l =
    IsWalking (history_of l.graph.layers) l.fn.start.0 l.seen.items (heap_items l.queue) (numbers_of l.walked.items) []

-- each commit that is walked was marked, and left the queue
abbrev pub decreases-loop-next : goal.decreases-loop-next
decreases-loop-next l = work l.seen.items (heap_items l.queue)

abbrev pub invariant-loop-parent : goal.invariant-loop-parent
invariant-loop-parent l = record {
  walking : IsWalking (history_of l.graph.layers) l.fn.start.0 l.seen.items (heap_items l.queue) (numbers_of l.walked.items)
      (numbers_of l.parent-iterator);
  within : All (λ q. q.0 < total l.graph.layers) l.parent-iterator;
  work : work l.seen.items (heap_items l.queue) ≡ work l.initial.seen.items (heap_items l.initial.queue);
}
