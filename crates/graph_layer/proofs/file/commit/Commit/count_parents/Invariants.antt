use Rattle.std.proofs.Common.{◌≡◌, ◌≤◌, length}
use Rattle.graph_layer.specs.Commit.{commit_parents}
use Rattle.graph_format.specs.Parents.{items_of}
use Rattle.graph_layer.specs.RemainingParents.{parents_left}
use Rattle.graph_layer.proofs.ParentCountLemmas.{after}
use Rattle.graph_layer.proofs.file.commit.Commit.count_parents.Given as goal

-- what is left is what comes after the parents that were counted
abbrev pub invariant-loop-parent : goal.invariant-loop-parent
invariant-loop-parent l = record {
  left : parents_left l.parent-iterator ≡ items_of (after l.count (commit_parents l.self));
  within : l.count ≤ length (commit_parents l.self).positions;
}
