use Rattle.std.proofs.Common.{nat_lt, rules}
use Rattle.std.proofs.lemmas.List.Sorted.{IsNonDecreasingBy-from_sort, answers_always}
use Rattle.gix_commitgraph.proofs.lookup.FrontLemmas.{risen, all-fronts, distinct-by_fronts, rise-by_fronts}
use Rattle.gix_commitgraph.proofs.graph.Graph.has_distinct_fronts.Goals as goal

pub returns-clause-distinct : goal.returns-clause-distinct
returns-clause-distinct c = λ are.
    let less = c.is_sorted_by.ensures.cases nat_lt (answers_always _ _ _ (λ f a r g called. search rules)) in
    distinct-by_fronts c.args.self.now c.loop-id.fronts.items c.sort.new.self.items
    (all-fronts _ _ _ c.loop-id.invariant.whole c.in-None.ensures.steps.0)
    c.in_ok-sort.ensures.permutation
    (IsNonDecreasingBy-from_sort (λ x. x) _ c.in_ok-sort.ensures.sorted)
    (risen _ _ (rw c.deref.ensures.value at less) are)

pub returns-clause-fronts : goal.returns-clause-fronts
returns-clause-fronts c = λ apart.
    let less = c.is_sorted_by.ensures.cases nat_lt (answers_always _ _ _ (λ f a r g called. search rules)) in
    rise-by_fronts c.args.self.now c.loop-id.fronts.items c.sort.new.self.items _
    (all-fronts _ _ _ c.loop-id.invariant.whole c.in-None.ensures.steps.0)
    c.in_ok-sort.ensures.permutation
    (IsNonDecreasingBy-from_sort (λ x. x) _ c.in_ok-sort.ensures.sorted)
    (rw c.deref.ensures.value at less) apart
