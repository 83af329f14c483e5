use Rattle.std.proofs.Common.{◌≡◌, ◌-◌, ◌<◌, ◌^◌, arith, length, rules, None, Some}
use Rattle.graph_layer.specs.Commit.{commit_parents}
use Rattle.graph_layer.specs.RemainingParents.{parents_left}
use Rattle.commitgraph_c.proofs.FirstRoom.{more_told, all_fit}
use Rattle.commitgraph_c.proofs.ParentRoom.{next_written, all_told, fault_told}
use Rattle.commitgraph_c.proofs.first_parents.write_items.Goals as goal

pub returns-then-count-out : goal.returns-then-count-out
returns-then-count-out c =
    let seen = rw (c.in-Some.ensures.steps.steps, c.in-Ok.is) at c.loop-parent.invariant.0 in
    let same : length c.loop-parent.out ≡ length c.args.out.now = c.loop-parent.auto.out in
    let few : length c.args.out.now < 2 ^ 64 - 1 = search rules in
    more_told (commit_parents c.args.commit) c.loop-parent.count c.args.out.now c.loop-parent.out few
    c.loop-parent.invariant.1 c.in-Ok.pos (parents_left c.next.new.self) (omega (arith, same, c.if-count-out.true)) seen

pub loop-parent-preserved : goal.loop-parent-preserved
loop-parent-preserved c =
    let seen = rw (c.in-Some.ensures.steps.steps, c.in-Ok.is) at c.loop-parent.invariant.0 in
    let same : length c.loop-parent.out ≡ length c.args.out.now = c.loop-parent.auto.out in
    let few : length c.args.out.now < 2 ^ 64 = search rules in
    let below : c.loop-parent.count < length c.args.out.now = omega (arith, same, c.if-count-out.false) in
    rw c.saturating_add-count.ensures (
      next_written (commit_parents c.args.commit) c.loop-parent.count c.args.out.now c.loop-parent.out c.in-Ok.pos
          (parents_left c.next.new.self) few below seen,
      omega (arith, below),
    )

pub returns-in-Err : goal.returns-in-Err
returns-in-Err c =
    let seen = rw (c.in-Some.ensures.steps.steps, c.in-Err.is) at c.loop-parent.invariant.0 in
    let few : length c.args.out.now < 2 ^ 64 - 1 = search rules in
    rw c.parent_code-code.ensures
    (all_fit (commit_parents c.args.commit) c.loop-parent.count c.args.out.now c.loop-parent.out few c.loop-parent.invariant.1
    (Some c.in-Err.error) (fault_told (commit_parents c.args.commit) c.loop-parent.count c.args.out.now c.loop-parent.out
    c.in-Err.error (parents_left c.next.new.self) seen))

pub returns : goal.returns
returns c =
    let seen = rw c.in-None.ensures.steps.steps.0 at c.loop-parent.invariant.0 in
    let few : length c.args.out.now < 2 ^ 64 - 1 = search rules in
    all_fit (commit_parents c.args.commit) c.loop-parent.count c.args.out.now c.loop-parent.out few c.loop-parent.invariant.1 None
    (all_told (commit_parents c.args.commit) c.loop-parent.count c.args.out.now c.loop-parent.out seen)
