-- All positions so far are within the graph.
use Rattle.std.proofs.Common.{◌<◌, All}
use Rattle.gix_commitgraph.specs.Graph.{total}
use Rattle.test_calls.proofs.calls.positions.Given as goal

abbrev pub invariant-loop-number : goal.invariant-loop-number
invariant-loop-number l = All (λ pos. pos.0 < total l.checked.layers) l.all.items
