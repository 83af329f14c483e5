-- The comparer stays one over the graph, and the first pairs are compared.
use Rattle.std.proofs.Common.{◌≡◌, take}
use Rattle.commitgraph_c.specs.Compared.{TellsCompared}
use Rattle.commitgraph_c.proofs.compare.compare_pairs.Given as goal

abbrev pub invariant-loop-place : goal.invariant-loop-place
invariant-loop-place l = record {
  graph : l.comparer ≡ l.graph;
  told : TellsCompared l.graph.layers (take l.place l.pairs) l.length l.initial.answers l.answers l.initial.out l.out;
}
