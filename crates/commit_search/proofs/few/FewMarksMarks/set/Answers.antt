use Rattle.std.proofs.Common.{◌<◌, ap, refl, arith}
use Rattle.commit_search.specs.Marks.{Marking, Marked}
use Rattle.commit_search.proofs.KeptLemmas.{kept_put, kept_set, within_more, no_bits, some_bits}
use Rattle.commit_search.proofs.few.FewMarksMarks.set.Goals as goal
use Rattle.commit_search.proofs.few.FewMarksMarks.set.Goals.{else-place-len-via-then-place-len+else-put}
use Rattle.commit_search.proofs.few.FewMarksMarks.set.Goals.{else-place-len-via-else-place-len}

pub set_bit-requires : goal.set_bit-requires
set_bit-requires c =
    let a = c.self.inside in
    let below : c.args.number < a.bound = omega (arith, c.requires.bound, ap (λ (m : Marking). m.bound) c.self.view_is) in
    let bits = c.self.invariant.many (some_bits a.bits c.is_empty.result c.is_empty.ensures c.if-not-is_empty.true) in
    omega (arith, below, bits.room)

pub invariant_of-self-then-not-is_empty : goal.invariant_of-self-then-not-is_empty
invariant_of-self-then-not-is_empty c =
    let a = c.self.inside in
    let one : Marked = record { number = c.args.number; mark = c.args.mark } in
    let below : one.number < a.bound = omega (arith, c.requires.bound, ap (λ (m : Marking). m.bound) c.self.view_is) in
    rw c.in_ok-push.ensures.items
    (kept_set a.bound a.marked.items one below a.table.items a.bits.items c.set_bit.new.bits.items
    (some_bits a.bits c.is_empty.result c.is_empty.ensures c.if-not-is_empty.true) c.set_bit.ensures.len
    (c.set_bit.ensures.marks a.marked.items one refl) c.self.invariant)

pub invariant_of-self-then-put : goal.invariant_of-self-then-put
invariant_of-self-then-put c =
    let a = c.self.inside in
    let one : Marked = record { number = c.args.number; mark = c.args.mark } in
    let below : one.number < a.bound = omega (arith, c.requires.bound, ap (λ (m : Marking). m.bound) c.self.view_is) in
    rw c.in_ok-push.ensures.items
    (kept_put a.bound a.marked.items one below a.table.items c.put.new.table.items a.bits.items c.len-place.result
    (no_bits a.bits c.is_empty.result c.is_empty.ensures c.if-not-is_empty.false) (omega (arith, c.len-place.ensures))
    (c.put.ensures.done c.if-put.true) c.self.invariant)

pub grown-requires-clause-within : goal.grown-requires-clause-within
grown-requires-clause-within c =
    let a = c.self.inside in
    let one : Marked = record { number = c.args.number; mark = c.args.mark } in
    let below : one.number < a.bound = omega (arith, c.requires.bound, ap (λ (m : Marking). m.bound) c.self.view_is) in
    let within = within_more a.bound a.marked.items one below c.self.invariant.within in
    elim c.else-place-len.branch [
      | else-place-len-via-then-place-len+else-put w ↦ rw (w.self-inside-is, c.in_ok-push.ensures.items) within
      | else-place-len-via-else-place-len w ↦ rw (w.self-inside-is, c.in_ok-push.ensures.items) within
    ]
