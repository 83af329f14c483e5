use Rattle.std.proofs.Common.{All, take}
use Rattle.gix_commitgraph.specs.Graph.{start}
use Rattle.graph_format.specs.StoredHistory.{history_of}
use Rattle.gix_commitgraph.specs.GraphLaw.{IsInOrder}
use Rattle.gix_commitgraph.specs.Statistics.{AreStatistics}
use Rattle.gix_commitgraph.proofs.check.GraphCheckLemmas.{ReachesLayer}
use Rattle.gix_commitgraph.proofs.graph.Graph.verify_layers.Given as goal

abbrev pub invariant-loop-layer : goal.invariant-loop-layer
invariant-loop-layer g l = record {
  reached : ReachesLayer g.F.FnMut l.options l.self l.first l.fn.processor l.layer l.processor;
  ordered : All IsInOrder (take l.layer l.self);
  statistics : AreStatistics (take (start l.self l.layer) (history_of l.self)) l.statistics;
}
