use Rattle.std.proofs.Common.{◌++◌, List, take}
use Rattle.graph_walks.specs.History.{Node}
use Rattle.graph_format.specs.StoredHistory.{layer_history}
use Rattle.graph_history.specs.LowerStatistics.{AreLowerStatistics}
use Rattle.graph_history.proofs.lower.LowerStatistics.add_layer.Given as goal

abbrev pub invariant-loop-number : goal.invariant-loop-number
invariant-loop-number l =
    (seen : List Node) → AreLowerStatistics seen l.fn.self
    → AreLowerStatistics (seen ++ take l.number (layer_history l.file)) l.self
