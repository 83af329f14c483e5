-- The layers so far have as many commits as were taken away.
use Rattle.std.proofs.Common.{◌≡◌, ◌+◌, take}
use Rattle.std.specs.List.{sum_by}
use Rattle.graph_parts.specs.Shown.{commits_of_part}
use Rattle.graph_parts.proofs.parts.GraphParts.spot_of.Given as goal

abbrev pub invariant-loop-layer : goal.invariant-loop-layer
invariant-loop-layer l = l.fn.pos.0 ≡ sum_by commits_of_part (take l.layer l.self.layers.items) + l.left
