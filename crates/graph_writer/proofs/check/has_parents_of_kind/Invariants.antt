use Rattle.std.proofs.Common.{◌≡◌, ◌<◌, [], ℕ, true, get_or}
use Rattle.graph_writer.specs.WriteRefusal.{is_of_kind}
use Rattle.graph_writer.proofs.check.has_parents_of_kind.Given as goal

-- the parents before this one are of the kind
abbrev pub invariant-loop-number : goal.invariant-loop-number
invariant-loop-number g l =
    (k : ℕ) → k < l.number → is_of_kind l.kind (get_or l.commit.parents.items k []) ≡ true
