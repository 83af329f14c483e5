-- The ids so far are those that the iterator gave.
use Rattle.std.proofs.Common.{◌≡◌}
use Rattle.write_commands.proofs.commit.listed.Given as goal

abbrev pub invariant-loop-id : goal.invariant-loop-id
invariant-loop-id l = l.ids.items ≡ l.yielded
