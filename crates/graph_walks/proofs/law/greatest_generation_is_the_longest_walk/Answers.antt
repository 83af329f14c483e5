use Rattle.graph_walks.proofs.WalkLemmas.{longest_from_greatest}
use Rattle.graph_walks.proofs.law.greatest_generation_is_the_longest_walk.Goals as goal

pub returns : goal.returns
returns c = longest_from_greatest
