-- The byte is at no place so far.
use Rattle.std.proofs.Common.{take}
use Rattle.question_lines.specs.BytePlaces.{HasNone}
use Rattle.question_lines.proofs.place.place_of.Given as goal

abbrev pub invariant-loop-place : goal.invariant-loop-place
invariant-loop-place l = HasNone l.byte (take l.place l.bytes)
