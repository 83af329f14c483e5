use Rattle.gix_commitgraph.proofs.history.HistoryLemmas.{history-at, generation-at, parents-at}
use Rattle.gix_commitgraph.proofs.law.graph.the_history_of_a_graph_says_what_its_records_say.Goals as goal

pub returns : goal.returns
returns c = record { node = history-at; generation = generation-at; parents = parents-at }
