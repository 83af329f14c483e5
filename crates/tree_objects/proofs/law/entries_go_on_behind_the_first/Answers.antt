use Rattle.tree_objects.proofs.SplitLemmas.{opened}
use Rattle.tree_objects.proofs.law.entries_go_on_behind_the_first.Goals as goal

pub returns : goal.returns
returns c = opened
