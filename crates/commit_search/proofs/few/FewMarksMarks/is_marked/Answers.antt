use Rattle.std.proofs.Common.{◌↔◌, ◌<◌, IsTrue, ap, subst, arith}
use Rattle.commit_search.specs.Marks.{Marking, IsMarked}
use Rattle.commit_search.proofs.KeptLemmas.{no_bits, some_bits}
use Rattle.commit_search.proofs.few.FewMarksMarks.is_marked.Goals as goal

pub stands_in-requires : goal.stands_in-requires
stands_in-requires c =
    c.self.invariant.few (no_bits c.self.inside.bits c.is_empty.result c.is_empty.ensures c.if-is_empty.true)

pub is_set-requires : goal.is_set-requires
is_set-requires c =
    let a = c.self.inside in
    let below : c.args.number < a.bound = omega (arith, c.requires, ap (λ (m : Marking). m.bound) c.self.view_is) in
    let bits = c.self.invariant.many (some_bits a.bits c.is_empty.result c.is_empty.ensures c.if-is_empty.false) in
    omega (arith, below, bits.room)

pub returns-then-is_empty : goal.returns-then-is_empty
returns-then-is_empty c =
    subst (λ (m : Marking). IsTrue c.stands_in.result ↔ IsMarked m.marked c.args.number) c.self.view_is c.stands_in.ensures

pub returns-else-is_empty : goal.returns-else-is_empty
returns-else-is_empty c =
    let a = c.self.inside in
    let bits = c.self.invariant.many (some_bits a.bits c.is_empty.result c.is_empty.ensures c.if-is_empty.false) in
    subst (λ (m : Marking). IsTrue c.is_set.result ↔ IsMarked m.marked c.args.number) c.self.view_is (
      (λ is. (bits.marks.those c.args.number).0 (c.is_set.ensures.0 is)),
      (λ is. c.is_set.ensures.1 ((bits.marks.those c.args.number).1 is)),
    )
