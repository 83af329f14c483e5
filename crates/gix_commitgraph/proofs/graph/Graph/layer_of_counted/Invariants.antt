use Rattle.std.proofs.Common.{◌+◌, ◌-◌, ◌<◌, ◌≤◌, length}
use Rattle.graph_format.specs.Lookup.{digits}
use Rattle.gix_commitgraph.specs.Graph.{start}
use Rattle.gix_commitgraph.proofs.graph.Graph.layer_of_counted.Given as goal

abbrev pub invariant-loop-high : goal.invariant-loop-high
invariant-loop-high l = record {
  some : l.low < l.high;
  within : l.high ≤ length l.self;
  from : start l.self l.low ≤ l.pos.0;
  below : l.pos.0 < start l.self l.high;
  most : l.comparisons + digits (l.high - l.low - 1) ≤ digits (length l.self);
  least : digits (length l.self) ≤ l.comparisons + digits (l.high - l.low);
}

abbrev pub decreases-loop-high : goal.decreases-loop-high
decreases-loop-high l = l.high - l.low
