use Rattle.std.proofs.Common.{◌≡◌, ◌∙◌, ◌<◌, ◌^◌, ap, refl, arith, length, rules}
use Rattle.graph_layer.specs.Commit.{commit_parents}
use Rattle.graph_layer.specs.RemainingParents.{parents_left}
use Rattle.commitgraph_c.proofs.ParentRoom.{none_seen, next_written, next_past, all_told, fault_told}
use Rattle.commitgraph_c.proofs.parents.write_items.Goals.{then-count-out, else-count-out}
use Rattle.commitgraph_c.proofs.parents.write_items.Goals as goal

pub loop-parent-init : goal.loop-parent-init
loop-parent-init c =
    none_seen (commit_parents c.args.commit) c.args.out.now (parents_left c.into_iter-parent-iterator.result)
    (ap parents_left c.into_iter-parent-iterator.ensures.into_iter_gives ∙ c.iter_parents-parent-items.ensures.items)

pub loop-parent-preserved : goal.loop-parent-preserved
loop-parent-preserved c =
    let seen = rw (c.in-Some.ensures.steps.steps, c.in-Ok.is) at c.loop-parent.invariant in
    let parents = commit_parents c.args.commit in
    let left = parents_left c.next.new.self in
    let same : length c.loop-parent.out ≡ length c.args.out.now = c.loop-parent.auto.out in
    let few : length c.args.out.now < 2 ^ 64 = search rules in
    elim c.if-count-out.branch [
      | then-count-out w ↦ rw (w.out-is, c.saturating_add-count.ensures)
          (next_written parents c.loop-parent.count c.args.out.now c.loop-parent.out c.in-Ok.pos left few
          (omega (arith, same, w.if-count-out.true)) seen)
      | else-count-out w ↦ rw (w.out-is, c.saturating_add-count.ensures)
          (next_past parents c.loop-parent.count c.args.out.now c.loop-parent.out c.in-Ok.pos left
          (omega (arith, same, w.if-count-out.false)) seen)
    ]

pub returns-in-Err : goal.returns-in-Err
returns-in-Err c =
    let seen = rw (c.in-Some.ensures.steps.steps, c.in-Err.is) at c.loop-parent.invariant in
    let told = fault_told (commit_parents c.args.commit) c.loop-parent.count c.args.out.now c.loop-parent.out c.in-Err.error
    (parents_left c.next.new.self) seen in
    record { count_of = told.count_is; code_of = rw told.fault_is c.parent_code-code.ensures; room = told.room_is }

pub returns : goal.returns
returns c =
    let seen = rw c.in-None.ensures.steps.steps.0 at c.loop-parent.invariant in
    let told = all_told (commit_parents c.args.commit) c.loop-parent.count c.args.out.now c.loop-parent.out seen in
    record { count_of = told.count_is; code_of = rw told.fault_is refl; room = told.room_is }
