use Rattle.gix_commitgraph.proofs.lookup.IdPlaceLemmas.{distinct-below}
use Rattle.gix_commitgraph.proofs.graph.Graph.distinct_below.Goals as goal

pub returns-clause-distinct : goal.returns-clause-distinct
returns-clause-distinct c =
    distinct-below c.args.self.now c.in_ok-places.places.items c.sort.new.self.items c.first_repeat.result
    c.in_ok-places.ensures.places c.in_ok-sort.ensures.permutation c.in_ok-sort.ensures.sorted
    (rw c.deref.ensures.value at c.first_repeat.ensures)
