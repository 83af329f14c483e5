use Rattle.std.proofs.Common.{◌-◌, ◌≤◌, length}
use Rattle.gix_hash_core.specs.Oid.{oid_bytes}
use Rattle.graph_writer.specs.Known.{new_ids_in_order}
use Rattle.graph_writer.proofs.positions.SearchSteps.{AreLessTo, AreGreaterFrom}
use Rattle.graph_writer.proofs.resolve.Known.search.Given as goal

-- what is left out on both sides has other ids
abbrev pub invariant-loop-low : goal.invariant-loop-low
invariant-loop-low g l = record {
  within : l.high ≤ length l.self.order.now;
  less : AreLessTo (new_ids_in_order l.self) (oid_bytes l.id) l.low;
  greater : AreGreaterFrom (new_ids_in_order l.self) (oid_bytes l.id) l.high;
}

abbrev pub decreases-loop-low : goal.decreases-loop-low
decreases-loop-low g l = l.high - l.low
