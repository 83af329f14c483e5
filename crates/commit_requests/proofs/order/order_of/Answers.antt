use Rattle.std.proofs.Common.{List, subst}
use Rattle.graph_levels.specs.declared.level.Level.{Level}
use Rattle.commit_requests.specs.Dated.{AreDated}
use Rattle.commit_requests.proofs.OrderLemmas.{come_after}
use Rattle.commit_requests.proofs.order.order_of.Goals as goal

pub returns-clause-order : goal.returns-clause-order
returns-clause-order c =
    let places = c.in_ok-by_date.field-0.items in
    come_after c.args.lists.now c.in_ok-found.found.items c.deref.result.now c.in_ok-found.ensures.len
    c.in_ok-found.ensures.dates places
    (subst (λ (levels : List Level). AreDated levels places) c.deref-2.ensures.value c.in_ok-by_date.ensures)
    c.requires.within
