use Rattle.std.proofs.Common.{◌≡◌, ◌<◌, ℕ, [], false, get_or}
use Rattle.graph_writer.specs.Known.{is_unknown_to}
use Rattle.graph_writer.proofs.resolve.Known.unknown_parent.Given as goal

-- the parents before this one are known
abbrev pub invariant-loop-number : goal.invariant-loop-number
invariant-loop-number g l =
    (k : ℕ) → k < l.number → is_unknown_to l.self (get_or l.commit.parents.items k []) ≡ false
