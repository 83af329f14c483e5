use Rattle.std.proofs.Common.{◌-◌, ◌^◌, ◌<◌}
use Rattle.commit_search.proofs.places.table_of.Given as goal

abbrev pub invariant-loop-slots : goal.invariant-loop-slots
invariant-loop-slots l = record {
  some : 0 < l.slots;
  few : l.slots < 2 ^ 32;
}

abbrev pub decreases-loop-slots : goal.decreases-loop-slots
decreases-loop-slots l = 2 ^ 32 - l.slots
