use Rattle.std.proofs.Common.{take}
use Rattle.graph_format.specs.StoredHistory.{layer_history}
use Rattle.graph_layer.specs.LayerStatistics.{AreLayerStatistics}
use Rattle.graph_layer.proofs.TraverseLemmas.{ReachesCommit}
use Rattle.graph_layer.proofs.file.File.traverse.Given as goal

abbrev pub invariant-loop-number : goal.invariant-loop-number
invariant-loop-number g l = record {
  reached : ReachesCommit g.F.FnMut l.self l.fn.processor l.number l.processor;
  statistics : AreLayerStatistics (take l.number (layer_history l.self)) l.statistics;
}
