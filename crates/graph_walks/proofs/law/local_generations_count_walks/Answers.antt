use Rattle.graph_walks.proofs.WalkLemmas.{counts_from_local}
use Rattle.graph_walks.proofs.law.local_generations_count_walks.Goals as goal

pub returns : goal.returns
returns c = counts_from_local
