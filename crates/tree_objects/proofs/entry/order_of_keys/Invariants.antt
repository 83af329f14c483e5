use Rattle.std.proofs.Common.{◌≡◌, ◌++◌, drop}
use Rattle.std.specs.Ordering.{nat_cmp}
use Rattle.std.specs.Cmp.Lexicographic.{slice_cmp}
use Rattle.tree_objects.specs.Tree.{key_end}
use Rattle.tree_objects.proofs.entry.order_of_keys.Given as goal

abbrev pub invariant-loop-i : goal.invariant-loop-i
invariant-loop-i l =
    slice_cmp nat_cmp (drop l.i l.a ++ key_end l.a_kind) (drop l.i l.b ++ key_end l.b_kind)
    ≡ slice_cmp nat_cmp (l.a ++ key_end l.a_kind) (l.b ++ key_end l.b_kind)
