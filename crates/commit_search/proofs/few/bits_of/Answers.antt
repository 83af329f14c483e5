use Rattle.std.proofs.Common.{◌<◌, length, take, sym, arith, rules}
use Rattle.std.proofs.lemmas.Grind.{common_steps}
use Rattle.commit_search.proofs.MarkLemmas.{are_marks-none, are_marks-more}
use Rattle.commit_search.proofs.few.bits_of.Goals as goal

pub loop-place-init : goal.loop-place-init
loop-place-init c = record {
  len = search rules;
  marks = are_marks-none _ (λ k. grind (arith, common_steps));
}

pub set_bit-requires : goal.set_bit-requires
set_bit-requires c =
    let l = c.loop-place in
    let lt : l.place < length c.args.marked.now.items = omega (arith, c.loop-place-test.true, c.len-place-end.ensures) in
    let below = c.requires c.number_at.result (l.place, lt, sym c.number_at.ensures) in
    omega (arith, below, l.invariant.len)

pub loop-place-preserved : goal.loop-place-preserved
loop-place-preserved c =
    let l = c.loop-place in
    record {
      len = omega (arith, c.set_bit.ensures.len, l.invariant.len);
      marks = are_marks-more c.set_bit.new.bits.items c.number_at.result c.args.marked.now.items l.place
          (omega (arith, c.loop-place-test.true, c.len-place-end.ensures)) (sym c.number_at.ensures)
          (λ e is. c.set_bit.ensures.marks (take l.place c.args.marked.now.items) e is l.invariant.marks);
    }
