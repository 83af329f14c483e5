use Rattle.gix_commitgraph.proofs.history.KnownParentLemmas.{known-decoded, known-within}
use Rattle.gix_commitgraph.proofs.law.sound.the_parents_of_a_right_graph_are_there.Goals as goal

pub returns : goal.returns
returns c = record { decoded = known-decoded; there = known-within }
