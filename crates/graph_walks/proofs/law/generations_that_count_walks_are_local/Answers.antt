use Rattle.graph_walks.proofs.WalkLemmas.{local_from_counts}
use Rattle.graph_walks.proofs.law.generations_that_count_walks_are_local.Goals as goal

pub returns : goal.returns
returns c = local_from_counts
