use Rattle.graph_format.specs.StoredHistory.{history_of}
use Rattle.graph_layer.proofs.EdgeListLemmas.{HasPassed}
use Rattle.gix_commitgraph.specs.ListedTallies.{IsTally}
use Rattle.gix_commitgraph.proofs.check.EdgeListLemmas.{nothing-tallied}
use Rattle.gix_commitgraph.proofs.graph.Graph.tally_lists.Given as goal

abbrev pub invariant-loop-word : goal.invariant-loop-word
invariant-loop-word l =
    HasPassed (IsTally (history_of l.self) l.span.stop) (nothing-tallied (history_of l.self) l.span.stop)
    l.initial.word-iterator.iter.rest.now l.word-iterator.iter.rest.now l.listed l.tallies.items
