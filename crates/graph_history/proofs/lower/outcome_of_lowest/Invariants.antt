use Rattle.std.proofs.Common.{take}
use Rattle.graph_format.specs.StoredHistory.{history_of}
use Rattle.graph_history.specs.LowerStatistics.{AreLowerStatistics}
use Rattle.graph_history.proofs.lower.outcome_of_lowest.Given as goal

abbrev pub invariant-loop-layer : goal.invariant-loop-layer
invariant-loop-layer l = AreLowerStatistics (history_of (take l.layer l.graph)) l.statistics
