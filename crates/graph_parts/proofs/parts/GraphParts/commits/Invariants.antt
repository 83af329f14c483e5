use Rattle.std.proofs.Common.{◌≡◌, take}
use Rattle.std.specs.List.{sum_by}
use Rattle.graph_parts.specs.Shown.{commits_of_part}
use Rattle.graph_parts.proofs.parts.GraphParts.commits.Given as goal

abbrev pub invariant-loop-part : goal.invariant-loop-part
invariant-loop-part l = l.commits ≡ sum_by commits_of_part (take l.part-index l.self.layers.items)
