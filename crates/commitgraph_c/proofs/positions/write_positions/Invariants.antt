use Rattle.std.proofs.Common.{◌≡◌, take}
use Rattle.commit_search.specs.Positions.{numbers_of}
use Rattle.c_opening.specs.Answers.{written}
use Rattle.commitgraph_c.proofs.positions.write_positions.Given as goal

abbrev pub invariant-loop-place : goal.invariant-loop-place
invariant-loop-place l = l.out ≡ written (numbers_of (take l.place l.positions)) l.initial.out
