use Rattle.graph_walks.proofs.DateLemmas.{early}
use Rattle.graph_walks.proofs.law.right_dates_are_early.Goals as goal

pub returns : goal.returns
returns c = early
