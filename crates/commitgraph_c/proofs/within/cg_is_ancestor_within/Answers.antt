use Rattle.std.proofs.Common.{◌≡◌, ◌+◌, ◌⊎◌, IsTrue, Some, is_some, sym}
use Rattle.graph_format.specs.StoredHistory.{history_of}
use Rattle.commit_search.specs.Cardinality.{AtLeast}
use Rattle.commit_search.specs.WalkAnswer.{IsAtOrAbove}
use Rattle.commitgraph_c.proofs.within.cg_is_ancestor_within.Goals as goal

pub returns-in-Err-Stopped-clause-stopped : goal.returns-in-Err-Stopped-clause-stopped
returns-in-Err-Stopped-clause-stopped c =
    let held : c.args.graph.address.held ≡ Some c.in-Some.opened.now = c.in-Some.ensures in
    let layers : c.in-Some-as_checked.checked.layers ≡ c.in-Some.opened.now.0 = c.in-Some-as_checked.ensures.graph in
    let is : AtLeast (c.limit.result.visits + 1)
    (IsAtOrAbove (history_of c.in-Some-as_checked.checked.layers) c.args.descendant c.args.ancestor)
    ⊎ IsTrue (is_some c.limit.result.flag) =
    rw c.in-Err-Stopped.field-0-is at c.in-Err-Stopped.ensures.refused in
    λ same. rw held (sym c.in-Some-as_checked.ensures.some, rw (c.limit.ensures.visits, c.limit.ensures.flag, layers) at is)
