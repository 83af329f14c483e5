use Rattle.std.proofs.Common.{◌≡◌, ◌<◌, ◌-◌, ◌^◌, map, take}
use Rattle.graph_walks.specs.Counts.{greatest}
use Rattle.graph_levels.specs.Searching.{state_in}
use Rattle.graph_levels.specs.SearchStates.{level_generation, level_date}
use Rattle.graph_levels.proofs.search.Search.level_of.Given as goal

abbrev pub invariant-loop-parent : goal.invariant-loop-parent
invariant-loop-parent l = record {
  generation : l.generation ≡ greatest (map (λ q. level_generation (state_in l.self q)) (take l.parent-index l.parents));
  date : l.date ≡ greatest (map (λ q. level_date (state_in l.self q)) (take l.parent-index l.parents));
  small : l.date < 2 ^ 64 - 1;
}
