-- The digits that are counted, and those of what is left, are all of them.
use Rattle.std.proofs.Common.{◌≡◌, ◌+◌, length, decimal}
use Rattle.graph_commands.proofs.bytes.digit_count.Given as goal

abbrev pub invariant-loop-left : goal.invariant-loop-left
invariant-loop-left l = l.count + length (decimal l.left) ≡ length (decimal l.number)

abbrev pub decreases-loop-left : goal.decreases-loop-left
decreases-loop-left l = l.left
