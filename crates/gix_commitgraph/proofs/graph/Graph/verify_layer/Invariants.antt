use Rattle.std.proofs.Common.{◌≡◌, ◌+◌, ◌≤◌, length, take}
use Rattle.graph_format.specs.StoredHistory.{history_of}
use Rattle.graph_layer.specs.Remaining.{commits_left}
use Rattle.graph_format.specs.Layer.{positions_from}
use Rattle.gix_commitgraph.specs.Tallies.{IsBatch}
use Rattle.gix_commitgraph.specs.Statistics.{AreStatistics}
use Rattle.gix_commitgraph.proofs.check.LayerCheckLemmas.{ReachesCommit}
use Rattle.gix_commitgraph.proofs.graph.Graph.verify_layer.Given as goal

abbrev pub invariant-loop-commit : goal.invariant-loop-commit
invariant-loop-commit g l = record {
  left : commits_left l.commit-iterator ≡ positions_from l.span.file.now (length l.yielded);
  within : length l.yielded ≤ length l.span.file.now.ids;
  reached : ReachesCommit g.F.FnMut l.options l.self l.span l.fn.processor (length l.yielded) l.processor;
  statistics : AreStatistics (take (l.span.start + length l.yielded) (history_of l.self)) l.statistics;
  batch : IsBatch l.self l.span (length l.yielded) l.batch;
}
