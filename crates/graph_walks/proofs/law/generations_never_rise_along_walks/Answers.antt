use Rattle.graph_walks.proofs.WalkLemmas.{reached_is_no_higher}
use Rattle.graph_walks.proofs.law.generations_never_rise_along_walks.Goals as goal

pub returns : goal.returns
returns c = reached_is_no_higher
