use Rattle.std.proofs.Common.{◌≡◌, ◌-◌, ◌≤◌, ℕ, List, Some, option_map, length}
use Rattle.std.specs.Prelude.{All}
use Rattle.gix_hash_core.specs.Oid.{oid_bytes}
use Rattle.tree_changes.specs.Stands.{World}
use Rattle.tree_changes.specs.InTurn.{HasTold}
use Rattle.filter_checks.specs.Refused.{ArePossibleAlong}
use Rattle.filter_checks.proofs.commit.check_touched.Given as goal

abbrev pub invariant-loop-changes : goal.invariant-loop-changes
invariant-loop-changes g l =
    let says = g.S.TreeSource.says in
    record {
      kind : g.S.TreeSource.kind_is l.source ≡ g.S.TreeSource.kind_is l.fn.source;
      kept : (world : World) → says l.source world → says l.fn.source world;
      texts : List (List ℕ);
      told : HasTold (g.S.TreeSource.kind_is l.source) (says l.source) (option_map oid_bytes l.fn.old)
          (Some (oid_bytes l.fn.new)) l.limits.names l.limits.trees texts l.changes;
      counted : length texts ≡ l.count;
      possible : All (ArePossibleAlong l.filters l.pos.0) texts;
      few : l.count ≤ l.limits.paths;
    }

abbrev pub decreases-loop-changes : goal.decreases-loop-changes
decreases-loop-changes g l = l.limits.paths - l.count
