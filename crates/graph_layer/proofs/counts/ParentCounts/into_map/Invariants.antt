use Rattle.std.proofs.Common.{◌≡◌, ℕ, ◌<◌, ◌≤◌}
use Rattle.std.specs.BTreeMap.{get}
use Rattle.std.specs.Ordering.{nat_cmp}
use Rattle.graph_layer.specs.ParentCounts.{counted}
use Rattle.graph_layer.proofs.counts.ParentCounts.into_map.Given as goal

-- the numbers so far are in the map, and the others are there as they were
abbrev pub invariant-loop-parents : goal.invariant-loop-parents
invariant-loop-parents l = record {
  done : (k : ℕ) → k < l.parents → get nat_cmp l.counts k ≡ counted l.fn.self k;
  rest : (k : ℕ) → l.parents ≤ k → get nat_cmp l.counts k ≡ get nat_cmp l.fn.self.more k;
}
