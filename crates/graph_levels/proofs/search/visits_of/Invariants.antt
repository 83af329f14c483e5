use Rattle.std.proofs.Common.{All}
use Rattle.graph_levels.specs.Searching.{IsVisit}
use Rattle.graph_levels.proofs.search.visits_of.Given as goal

abbrev pub invariant-loop-number : goal.invariant-loop-number
invariant-loop-number l = All (IsVisit l.parents l.times) l.visits.items
