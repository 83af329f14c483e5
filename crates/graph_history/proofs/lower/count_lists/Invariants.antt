use Rattle.graph_layer.specs.ListedParents.{IsCount}
use Rattle.graph_layer.proofs.EdgeListLemmas.{HasPassed, nothing-counted}
use Rattle.graph_history.proofs.lower.count_lists.Given as goal

abbrev pub invariant-loop-word : goal.invariant-loop-word
invariant-loop-word l =
    HasPassed IsCount nothing-counted l.initial.word-iterator.iter.rest.now l.word-iterator.iter.rest.now l.listed l.counts.items
