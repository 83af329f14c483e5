use Rattle.std.proofs.Common.{◌≡◌, take}
use Rattle.graph_walks.specs.Counts.{greatest}
use Rattle.newer_commits.proofs.ranks.RanksOnTop.new.Given as goal

-- the latest of the first dates
abbrev pub invariant-loop-number : goal.invariant-loop-number
invariant-loop-number l = l.latest ≡ greatest (take l.number l.fn.dates)
