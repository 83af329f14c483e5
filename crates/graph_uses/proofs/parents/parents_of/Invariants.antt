use Rattle.std.proofs.Common.{◌≡◌, ◌++◌, map}
use Rattle.gix_commitgraph.specs.History.{parents_at}
use Rattle.gix_commitgraph.specs.StoredHistory.{history_of}
use Rattle.graph_uses.proofs.parents.parents_of.Given as goal

-- the parents so far, and then those that are left, are all parents
abbrev pub invariant-loop-parent : goal.invariant-loop-parent
invariant-loop-parent l =
    parents_at (history_of l.graph.layers) l.fn.pos.0
    ≡ map (λ q. q.0) l.parents.items ++ map (λ q. q.0) l.parent-iterator
