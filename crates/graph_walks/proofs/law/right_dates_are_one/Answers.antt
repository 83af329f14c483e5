use Rattle.graph_walks.proofs.DateLemmas.{one_list}
use Rattle.graph_walks.proofs.law.right_dates_are_one.Goals as goal

pub returns : goal.returns
returns c = one_list
