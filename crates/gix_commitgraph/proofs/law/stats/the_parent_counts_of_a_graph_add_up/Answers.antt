use Rattle.gix_commitgraph.proofs.history.ParentSumLemmas.{parents_add_up}
use Rattle.gix_commitgraph.proofs.law.stats.the_parent_counts_of_a_graph_add_up.Goals as goal

pub returns : goal.returns
returns c = λ layers. parents_add_up layers _ c.len-count.ensures.ordered
