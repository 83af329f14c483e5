use Rattle.std.proofs.Common.{◌≡◌, take}
use Rattle.c_opening.specs.Answers.{written}
use Rattle.c_writing.proofs.dates.tell.Given as goal

abbrev pub invariant-loop-place : goal.invariant-loop-place
invariant-loop-place l = l.out ≡ written (take l.place l.dates) l.initial.out
