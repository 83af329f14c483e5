use Rattle.std.proofs.Common.{◌+◌, ◌/◌, rules, arith}
use Rattle.commit_search.proofs.MarkLemmas.{are_marks-grown}
use Rattle.commit_search.proofs.bits.BitMarksMarks.grow_to.Goals as goal

pub invariant_of-self : goal.invariant_of-self
invariant_of-self c =
    let a = c.self.inside in
    let by_index = c.resize.ensures.by_index in
    are_marks-grown a.bits.items c.resize.new.self.items (c.args.bound / 64 + 1) a.marked.items
    (omega (arith, c.if-len-words.true, c.len.ensures))
    (omega (arith, c.in_ok-resize.ensures.len))
    (λ k lt. by_index.0 k 0 (omega (arith, lt, c.if-len-words.true, c.len.ensures)) (omega (arith, lt)))
    (λ k le lt. by_index.1 k 0 (search rules) (omega (arith, le)) lt)
    c.self.invariant
