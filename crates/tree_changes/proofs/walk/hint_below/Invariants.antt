use Rattle.std.proofs.Common.{◌≡◌}
use Rattle.tree_changes.specs.Stands.{World}
use Rattle.tree_changes.proofs.walk.hint_below.Given as goal

abbrev pub invariant-loop : goal.invariant-loop
invariant-loop g l =
    let says = g.S.TreeSource.says in
    record {
      kind : g.S.TreeSource.kind_is l.source ≡ g.S.TreeSource.kind_is l.fn.source;
      kept : (world : World) → says l.source world → says l.fn.source world;
    }
