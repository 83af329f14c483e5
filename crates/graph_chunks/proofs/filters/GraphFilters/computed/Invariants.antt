-- So many of the filters so far are computed.
use Rattle.std.proofs.Common.{◌≡◌, ◌≤◌, count_by, take}
use Rattle.graph_chunks.specs.GraphFilters.{is_computed}
use Rattle.graph_chunks.proofs.filters.GraphFilters.computed.Given as goal

abbrev pub invariant-loop-pos : goal.invariant-loop-pos
invariant-loop-pos l = record {
  counted : l.computed ≡ count_by is_computed (take l.pos l.self.filters);
  few : l.computed ≤ l.pos;
}
