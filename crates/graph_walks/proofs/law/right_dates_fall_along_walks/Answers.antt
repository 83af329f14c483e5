use Rattle.graph_walks.proofs.DateLemmas.{above_proper_ancestors}
use Rattle.graph_walks.proofs.law.right_dates_fall_along_walks.Goals as goal

pub returns : goal.returns
returns c = above_proper_ancestors
