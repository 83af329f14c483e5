use Rattle.graph_walks.proofs.WalkLemmas.{cycle_at_cap}
use Rattle.graph_walks.proofs.law.cycles_are_at_the_cap.Goals as goal

pub returns : goal.returns
returns c = cycle_at_cap
