use Rattle.gix_commitgraph.proofs.check.GraphCallLemmas.{calls-graph}
use Rattle.gix_commitgraph.proofs.law.check.a_check_of_a_graph_calls_on_each_position_once.Goals as goal

pub returns : goal.returns
returns c h = calls-graph _
