-- The searcher stays one over the graph, and the first pairs are answered.
use Rattle.std.proofs.Common.{◌≡◌}
use Rattle.commitgraph_c.specs.Many.{AnswersFirst, AnswersPair}
use Rattle.commitgraph_c.proofs.pairs.answer_pairs.Given as goal

abbrev pub invariant-loop-place : goal.invariant-loop-place
invariant-loop-place l = record {
  graph : l.searcher ≡ l.graph.layers;
  answers : AnswersFirst (AnswersPair l.graph.layers) l.pairs l.place l.initial.out l.out;
}
