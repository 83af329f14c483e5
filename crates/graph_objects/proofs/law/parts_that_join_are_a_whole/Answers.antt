use Rattle.graph_objects.proofs.RightStreamLemmas.{parts_join}
use Rattle.graph_objects.proofs.law.parts_that_join_are_a_whole.Goals as goal

pub returns : goal.returns
returns c = parts_join
