use Rattle.std.proofs.Common.{List, refl, sym, subst}
use Rattle.commit_search.specs.Marks.{Marked, AreMarks}
use Rattle.commit_search.proofs.bits.BitMarksMarks.set.Goals as goal

pub invariant_of-self-2 : goal.invariant_of-self-2
invariant_of-self-2 c =
    let a = c.self.inside in
    let one : Marked = record { number = c.args.number; mark = c.args.mark } in
    subst (λ (ms : List Marked). AreMarks c.set_bit.new.bits.items ms) (sym c.in_ok-push.ensures.items)
    (c.set_bit.ensures.marks a.marked.items one refl c.self.invariant)
