use Rattle.graph_levels.specs.Searching.{IsUnderWay, HasFittingInput, ContinuesSearch, steps_left}
use Rattle.graph_levels.proofs.search.Search.finish.Given as goal

abbrev pub invariant-loop-self : goal.invariant-loop-self
invariant-loop-self l = record {
  going : IsUnderWay l.self;
  input : HasFittingInput l.self;
  on : ContinuesSearch l.fn.self l.self;
}

abbrev pub decreases-loop-self : goal.decreases-loop-self
decreases-loop-self l = steps_left l.self
