use Rattle.graph_bases.proofs.BaseLawLemmas.{base_swapped, bases_swapped}
use Rattle.graph_bases.proofs.law.merge_bases_are_the_same_in_both_orders.Goals as goal

pub returns : goal.returns
returns c = record {
  each = λ history first other p. (base_swapped history first other p, base_swapped history other first p);
  all = λ history first other bases. (bases_swapped history first other bases, bases_swapped history other first bases);
}
