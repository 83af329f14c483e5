use Rattle.std.proofs.Common.{◌≡◌, ◌-◌, ◌≤◌, List, Some, map, option_map, length}
use Rattle.gix_hash_core.specs.Oid.{oid_bytes}
use Rattle.tree_changes.specs.Stands.{World}
use Rattle.tree_changes.specs.Walk.{Change, IsFoundSoFar, leaf_texts}
use Rattle.tree_changes.proofs.changes.changed_paths.Given as goal

abbrev pub invariant-loop-found : goal.invariant-loop-found
invariant-loop-found g l =
    let says = g.S.TreeSource.says in
    let k = g.S.TreeSource.kind_is l.fn.source in
    record {
      kind : g.S.TreeSource.kind_is l.source ≡ k;
      kept : (world : World) → says l.source world → says l.fn.source world;
      names : l.walk.names ≡ l.limits.names;
      done : List Change;
      so_far : IsFoundSoFar k (says l.source) (option_map oid_bytes l.fn.old) (Some (oid_bytes l.fn.new)) l.limits.trees done
          l.walk.path.items l.walk.levels.items l.walk.trees;
      texts : leaf_texts done ≡ map (λ path. path.items) l.found.items;
      few : length l.found.items ≤ l.limits.paths;
    }

abbrev pub decreases-loop-found : goal.decreases-loop-found
decreases-loop-found g l = l.limits.paths - length l.found.items
