use Rattle.std.proofs.Common.{sym, ap, ◌∙◌, arith, length}
use Rattle.std.specs.Prelude.{Some}
use Rattle.gix_commitgraph.specs.Graph.{graph_ids}
use Rattle.graph_layer.specs.RemainingParents.{parents_left}
use Rattle.graph_objects.specs.Matching.{ids_of_items}
use Rattle.graph_objects.proofs.ParentLemmas.{one_more, one_differs, one_left, first_item, item_there, fewer}
use Rattle.graph_objects.proofs.parents.first_difference.Goals as goal

pub returns-then-not-has_id : goal.returns-then-not-has_id
returns-then-not-has_id c =
    let ids = graph_ids c.args.graph.now in
    one_differs (ids_of_items ids (parents_left c.args.recorded)) (ids_of_items ids (parents_left c.loop-id.recorded))
    c.args.named
    c.loop-id.named c.next.new.self c.loop-id.index c.in-Some.id c.loop-id.invariant.behind
    (λ same.
    let yes = c.has_id.ensures.1 (sym (first_item ids c.loop-id.recorded c.next-in-Some.new.self c.next-in-Some.result
    c.next-in-Some.ensures.steps) ∙ same) in
    cc (yes, c.if-not-has_id.true))
    c.in-Some.ensures.steps

pub loop-id-preserved : goal.loop-id-preserved
loop-id-preserved c =
    let ids = graph_ids c.args.graph.now in
    let given = item_there ids c.next-in-Some.result c.in-Some.id (c.has_id.ensures.0 c.if-not-has_id.false) in
    let cut = fewer c.loop-id.recorded c.next-in-Some.new.self c.next-in-Some.result given.0 given.1 c.next-in-Some.ensures.steps
    in
    record {
      behind =
          one_more ids (ids_of_items ids (parents_left c.args.recorded)) given.0 (parents_left c.next-in-Some.new.self)
          c.args.named
          c.loop-id.named c.next.new.self c.loop-id.index c.in-Some.id (rw cut at c.loop-id.invariant.behind)
          given.2 c.in-Some.ensures.steps;
      few = omega (arith, ap length cut, c.loop-id.invariant.few);
    }

pub returns-in-Some-next : goal.returns-in-Some-next
returns-in-Some-next c =
    let ids = graph_ids c.args.graph.now in
    one_left (ids_of_items ids (parents_left c.args.recorded)) (ids_of_items ids (parents_left c.loop-id.recorded)) _ c.args.named
    c.loop-id.named c.loop-id.index c.loop-id.invariant.behind
    (first_item ids c.loop-id.recorded c.next-2.new.self (Some c.in-Some-next.field-0) c.in-Some-next.ensures.steps)
    c.in_default.ensures.steps.0
