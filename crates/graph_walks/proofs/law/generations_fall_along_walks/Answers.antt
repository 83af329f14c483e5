use Rattle.graph_walks.proofs.WalkLemmas.{falls_above}
use Rattle.graph_walks.proofs.law.generations_fall_along_walks.Goals as goal

pub returns : goal.returns
returns c = falls_above
