use Rattle.std.proofs.Common.{◌≡◌}
use Rattle.gix_commitgraph.specs.Graph.{start}
use Rattle.c_opening.proofs.check.commits_below.Given as goal

abbrev pub invariant-loop-below : goal.invariant-loop-below
invariant-loop-below l = l.commits ≡ start l.graph l.below
