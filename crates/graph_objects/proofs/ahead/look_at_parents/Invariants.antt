use Rattle.std.proofs.Common.{◌≤◌}
use Rattle.graph_objects.proofs.ahead.look_at_parents.Given as goal

abbrev pub invariant-loop-number : goal.invariant-loop-number
invariant-loop-number l = l.count ≤ 128

abbrev pub invariant-loop-item : goal.invariant-loop-item
invariant-loop-item l = l.count ≤ 128
