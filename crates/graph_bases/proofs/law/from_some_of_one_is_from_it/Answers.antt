use Rattle.graph_bases.proofs.ReachLemmas.{from_one, from_itself}
use Rattle.graph_bases.proofs.law.from_some_of_one_is_from_it.Goals as goal

pub returns : goal.returns
returns c = λ history start p. (from_one history start p, from_itself history start p)
