use Rattle.std.proofs.Common.{◌≡◌, ◌++◌, ◌≤◌, ◌-◌, length, drop}
use Rattle.std.specs.Ordering.{nat_cmp}
use Rattle.std.specs.Cmp.Lexicographic.{slice_cmp}
use Rattle.tree_objects.specs.Tree.{key_end}
use Rattle.tree_objects.proofs.entry.order_of_ends.Given as goal

abbrev pub invariant-loop-first : goal.invariant-loop-first
invariant-loop-first l =
    let a = l.a ++ key_end l.a_kind in
    let b = l.b ++ key_end l.b_kind in
    record {
      same : slice_cmp nat_cmp (drop l.i a) (drop l.i b) ≡ slice_cmp nat_cmp a b;
      a_in : l.i ≤ length a;
      b_in : l.i ≤ length b;
    }

abbrev pub decreases-loop-first : goal.decreases-loop-first
decreases-loop-first l = length (l.a ++ key_end l.a_kind) - l.i
