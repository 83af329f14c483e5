use Rattle.std.proofs.Common.{◌+◌, ℕ, length, ap, ◌∙◌, arith}
use Rattle.graph_writer.proofs.filter_lists.SortedFilters.{sizes-mixed, size-next, few-bytes, more-filters}
use Rattle.graph_writer.proofs.filters.NewFilters.in_order.Goals as goal

pub loop-number-init : goal.loop-number-init
loop-number-init c = record {
  counted = c.in_ok-sorted.ensures.none;
  numbers = c.in_ok-sorted.ensures.numbers;
  room = omega (arith, c.in_ok-sorted.ensures.empty, sizes-mixed c.args.self.now c.args.order.now c.requires);
  each = λ p i lt at. absurd (omega (arith, lt));
}

pub push-requires : goal.push-requires
push-requires c =
    let n : ℕ = c.loop-number.number-index in
    omega (
      arith,
      c.loop-number.invariant.room,
      size-next c.args.self.now c.args.order.now n c.loop-number-test.true,
      ap length c.of.ensures,
      few-bytes c.args.self.now,
    )

pub loop-number-preserved : goal.loop-number-preserved
loop-number-preserved c =
    let n : ℕ = c.loop-number.number-index in
    let inv = c.loop-number.invariant in
    record {
      counted = c.in_ok-push.ensures.len ∙ ap (λ (m : ℕ). m + 1) inv.counted;
      numbers = c.in_ok-push.ensures.numbers ∙ inv.numbers;
      room =
          omega (
            arith,
            inv.room,
            c.in_ok-push.ensures.bytes,
            size-next c.args.self.now c.args.order.now n c.loop-number-test.true,
            ap length c.of.ensures,
          );
      each =
          more-filters c.args.self.now c.loop-number.sorted c.push.new.self c.args.order.now c.of.result.now n
          c.loop-number-test.true inv.counted c.in_ok-push.ensures.old c.in_ok-push.ensures.new inv.each c.of.ensures;
    }
