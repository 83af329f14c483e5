use Rattle.graph_walks.proofs.DateLemmas.{no_cycle}
use Rattle.graph_walks.proofs.law.right_dates_leave_no_cycle.Goals as goal

pub returns : goal.returns
returns c = no_cycle
