use Rattle.gix_commitgraph.proofs.layers.PositionLemmas.{ids-next}
use Rattle.gix_commitgraph.proofs.iter.GraphIdsIterator.next.Goals as goal

pub returns-clause-steps : goal.returns-clause-steps
returns-clause-steps c = ids-next _ _ _ _ _ c.in_ok-file.ensures.next c.id_at.ensures
