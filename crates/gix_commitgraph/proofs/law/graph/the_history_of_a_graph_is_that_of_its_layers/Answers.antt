use Rattle.gix_commitgraph.proofs.history.HistoryLemmas.{length-history, history-placed}
use Rattle.gix_commitgraph.proofs.law.graph.the_history_of_a_graph_is_that_of_its_layers.Goals as goal

pub returns : goal.returns
returns c = record { counted = length-history; placed = history-placed }
