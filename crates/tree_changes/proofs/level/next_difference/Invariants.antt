use Rattle.std.proofs.Common.{◌+◌, List, [], length}
use Rattle.tree_objects.specs.Tree.{TreeEntry, AreEntriesAnd}
use Rattle.tree_objects.specs.Tree.{AreInOrder}
use Rattle.tree_changes.specs.Walk.{IsEnd}
use Rattle.tree_changes.proofs.NextLemmas.{IsPast}
use Rattle.tree_changes.proofs.level.next_difference.Given as goal

abbrev pub invariant-loop-pair : goal.invariant-loop-pair
invariant-loop-pair l = record {
  past : (olds news : List TreeEntry) → AreEntriesAnd l.kind l.fn.old olds [] → AreEntriesAnd l.kind l.fn.new news []
      → AreInOrder olds → AreInOrder news → IsPast l.kind olds news l.old_rest l.new_rest;
  old_end : IsEnd l.fn.old l.old_rest;
  new_end : IsEnd l.fn.new l.new_rest;
}

abbrev pub decreases-loop-pair : goal.decreases-loop-pair
decreases-loop-pair l = length l.old_rest + length l.new_rest
