use Rattle.std.proofs.Common.{◌≡◌, ◌-◌, ◌≤◌, length, take}
use Rattle.path_filters.proofs.touched.common_length.Given as goal

abbrev pub invariant-loop-count : goal.invariant-loop-count
invariant-loop-count l = record {
  in_a : l.count ≤ length l.a;
  in_b : l.count ≤ length l.b;
  alike : take l.count l.a ≡ take l.count l.b;
}

abbrev pub decreases-loop-count : goal.decreases-loop-count
decreases-loop-count l = length l.a - l.count
