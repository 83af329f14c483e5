use Rattle.gix_commitgraph.proofs.history.IdWalkLemmas.{walked_by_ids}
use Rattle.gix_commitgraph.proofs.law.walk.walks_over_distinct_ids_are_walks_over_positions.Goals as goal

pub returns : goal.returns
returns c = walked_by_ids
