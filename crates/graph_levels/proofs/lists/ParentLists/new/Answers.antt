use Rattle.std.proofs.Common.{[], ℕ, List, sym, subst}
use Rattle.graph_levels.specs.ListEnds.{HasEnds}
use Rattle.graph_levels.proofs.ListLemmas.{no_ends}
use Rattle.graph_levels.proofs.lists.ParentLists.new.Goals as goal

pub invariant_of-result : goal.invariant_of-result
invariant_of-result c = record {
  whole =
      subst (λ (ps : List ℕ). HasEnds ps c.new-2.result.items) (sym c.new.ensures.items)
      (subst (HasEnds []) (sym c.new-2.ensures.items) no_ends);
}
