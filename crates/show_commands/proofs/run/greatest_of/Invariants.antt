-- It is the greatest of the number and the others so far.
use Rattle.std.proofs.Common.{◌≡◌, fold, max, take}
use Rattle.show_commands.proofs.run.greatest_of.Given as goal

abbrev pub invariant-loop-other : goal.invariant-loop-other
invariant-loop-other l = l.greatest ≡ fold max l.fn.number (take l.other-index l.others)
