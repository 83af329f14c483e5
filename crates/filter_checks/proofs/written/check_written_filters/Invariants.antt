use Rattle.std.proofs.Common.{◌≡◌}
use Rattle.tree_changes.specs.Stands.{World}
use Rattle.filter_checks.specs.Written.{AreWrittenBelow}
use Rattle.filter_checks.proofs.written.check_written_filters.Given as goal

abbrev pub invariant-loop-number : goal.invariant-loop-number
invariant-loop-number g l =
    let says = g.S.TreeSource.says in
    record {
      kind : g.S.TreeSource.kind_is l.source ≡ g.S.TreeSource.kind_is l.fn.source;
      kept : (world : World) → says l.source world → says l.fn.source world;
      written : (world : World) → says l.source world → AreWrittenBelow l.settings world l.graph l.filters l.number;
    }
