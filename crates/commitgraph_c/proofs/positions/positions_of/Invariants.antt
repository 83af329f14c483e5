-- The numbers so far are those of the positions that were found.
use Rattle.std.proofs.Common.{◌≡◌, take}
use Rattle.commit_search.specs.Positions.{numbers_of}
use Rattle.commitgraph_c.proofs.positions.positions_of.Given as goal

abbrev pub invariant-loop-number : goal.invariant-loop-number
invariant-loop-number l = numbers_of l.found.items ≡ take l.number-index l.numbers
