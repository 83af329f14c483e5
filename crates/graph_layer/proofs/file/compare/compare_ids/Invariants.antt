use Rattle.std.proofs.Common.{◌-◌, ◌≤◌, ◌+◌}
use Rattle.graph_layer.proofs.IdOrderLemmas.{RestsDecide}
use Rattle.graph_layer.proofs.file.compare.compare_ids.Given as goal

abbrev pub invariant-loop-at : goal.invariant-loop-at
invariant-loop-at l = record {
  within : l.at ≤ l.last + 8;
  decide : RestsDecide l.one l.other l.at;
}

abbrev pub decreases-loop-at : goal.decreases-loop-at
decreases-loop-at l = l.last - l.at
