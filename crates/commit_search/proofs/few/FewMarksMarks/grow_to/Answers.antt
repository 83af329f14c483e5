use Rattle.std.proofs.Common.{◌≤◌, arith}
use Rattle.commit_search.proofs.KeptLemmas.{kept_grown, kept_anew, within_grown, no_bits}
use Rattle.commit_search.proofs.few.FewMarksMarks.grow_to.Goals as goal
use Rattle.commit_search.proofs.few.FewMarksMarks.grow_to.Goals.{then-not-is_empty+in_ok-self-inside, else-not-is_empty}

pub bits_of-requires : goal.bits_of-requires
bits_of-requires c =
    let a = c.self.inside in
    within_grown a.bound c.max-bound.result (omega (arith, c.max-bound.ensures)) a.marked.items c.self.invariant.within

pub invariant_of-self : goal.invariant_of-self
invariant_of-self c =
    let a = c.self.inside in
    let le : a.bound ≤ c.max-bound.result = omega (arith, c.max-bound.ensures) in
    let kept = c.self.invariant in
    elim c.if-not-is_empty.branch [
      | then-not-is_empty+in_ok-self-inside w ↦
          rw w.self-inside-is
          (kept_anew a.bound c.max-bound.result le a.marked.items kept.within a.table.items w.in_ok-self-inside.field-0.items
          kept.slots w.in_ok-self-inside.ensures)
      | else-not-is_empty w ↦
          rw w.self-inside-is
          (kept_grown a.bound c.max-bound.result le a.marked.items kept.within a.table.items a.bits.items
          (no_bits a.bits c.is_empty.result c.is_empty.ensures w.if-not-is_empty.false) kept)
    ]
