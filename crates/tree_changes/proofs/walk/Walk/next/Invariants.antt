use Rattle.std.proofs.Common.{◌≡◌, ◌+◌, ◌*◌, ℕ, List, Option, length}
use Rattle.tree_changes.specs.Stands.{World}
use Rattle.tree_changes.specs.Walk.{Change, IsFoundSoFar}
use Rattle.tree_changes.proofs.GoneOn.{IsGoneOn}
use Rattle.tree_changes.proofs.walk.Walk.next.Given as goal

abbrev pub invariant-loop-level : goal.invariant-loop-level
invariant-loop-level g l =
    let says = g.S.TreeSource.says in
    let k = g.S.TreeSource.kind_is l.fn.source in
    record {
      kind : g.S.TreeSource.kind_is l.source ≡ k;
      kept : (world : World) → says l.source world → says l.fn.source world;
      names : l.self.names ≡ l.fn.self.names;
      found : (old new : Option (List ℕ)) (budget : ℕ) (found : List Change)
          → IsFoundSoFar k (says l.fn.source) old new budget found l.fn.self.path.items l.fn.self.levels.items l.fn.self.trees
          → IsGoneOn k (says l.source) old new budget found l.self.path.items l.self.levels.items l.self.trees;
    }

abbrev pub decreases-loop-level : goal.decreases-loop-level
decreases-loop-level g l = 2 * l.self.trees + length l.self.levels.items
