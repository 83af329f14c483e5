use Rattle.graph_layer.specs.RemainingParents.{parents_left}
use Rattle.graph_history.proofs.RightGraphLemmas.{is_given}
use Rattle.graph_history.proofs.parents.ParentPositionsIterator.next.Goals as goal

pub unwrap-requires : goal.unwrap-requires
unwrap-requires c =
    is_given (parents_left c.self.inside.parents) (parents_left c.next.new.self) c.self.invariant c.in_ok-parent.parent
    c.in_ok-parent.ensures.steps
