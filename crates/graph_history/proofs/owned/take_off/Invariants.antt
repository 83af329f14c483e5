-- So many of the lowest layers are as they were.
use Rattle.std.proofs.Common.{◌≡◌, length, take}
use Rattle.graph_history.proofs.owned.take_off.Given as goal

abbrev pub invariant-loop-graph : goal.invariant-loop-graph
invariant-loop-graph l = take l.layers l.graph ≡ take l.layers l.fn.graph

abbrev pub decreases-loop-graph : goal.decreases-loop-graph
decreases-loop-graph l = length l.graph
