use Rattle.std.proofs.Common.{◌≡◌, length}
use Rattle.graph_levels.specs.Searching.{IsUnderWay, HasFittingInput, ContinuesSearch}
use Rattle.graph_levels.proofs.search.Search.visit_block.Given as goal

abbrev pub invariant-loop-visit : goal.invariant-loop-visit
invariant-loop-visit l = record {
  going : IsUnderWay l.self;
  input : HasFittingInput l.self;
  on : ContinuesSearch l.fn.self l.self;
  empty : length l.self.stack.items ≡ 0;
}
