-- The first commits are told, and what is ahead of the block is the block of the others. The commit after them is the one at the
-- position of the layer, unless no answer is free or no commit is left.
use Rattle.std.proofs.Common.{◌≡◌, ◌+◌, ◌<◌, ◌≤◌, IfSome, drop, length, min, slice_get}
use Rattle.gix_commitgraph.specs.Graph.{graph_commits, start, total}
use Rattle.commitgraph_c.proofs.BlockRoom.{AreTold}
use Rattle.commitgraph_c.proofs.blocks.write_block.Given as goal

abbrev pub invariant-loop-layer : goal.invariant-loop-layer
invariant-loop-layer l = record {
  told : AreTold (drop l.first (graph_commits l.graph)) l.fn.answers l.fn.out l.place l.used l.answers l.out;
  at : l.place < length l.fn.answers → start l.graph l.layer + l.from ≡ min (l.first + l.place) (total l.graph);
  from : IfSome (slice_get l.graph l.layer) (λ layer. l.from ≤ length layer.ids);
  fits : l.place ≤ length l.fn.answers;
  within : l.place ≤ length (drop l.first (graph_commits l.graph));
}

abbrev pub invariant-loop-pos : goal.invariant-loop-pos
invariant-loop-pos l = record {
  told : AreTold (drop l.first (graph_commits l.graph)) l.fn.answers l.fn.out l.place l.used l.answers l.out;
  at : start l.graph l.layer + l.pos ≡ min (l.first + l.place) (total l.graph);
  count : l.place + l.from ≡ l.initial.place + l.pos;
  within : l.place ≤ length (drop l.first (graph_commits l.graph));
}
