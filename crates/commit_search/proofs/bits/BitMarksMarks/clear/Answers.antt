use Rattle.std.proofs.Common.{◌/◌, subst, arith}
use Rattle.std.proofs.lemmas.List.{length-set}
use Rattle.commit_search.proofs.MarkLemmas.{AreLeft, are_left-clear, inside_left}
use Rattle.commit_search.proofs.bits.BitMarksMarks.clear.Goals as goal

pub index_mut-requires : goal.index_mut-requires
index_mut-requires c =
    let a = c.loop-marked.self-inside in
    let left = subst (AreLeft a.bits.items) c.in-Some.ensures.items c.loop-marked.invariant.left in
    omega (arith, inside_left a.bits.items c.pop.new.self.items c.in-Some.marked left)

pub loop-marked-preserved : goal.loop-marked-preserved
loop-marked-preserved c =
    let a = c.loop-marked.self-inside in
    let left = subst (AreLeft a.bits.items) c.in-Some.ensures.items c.loop-marked.invariant.left in
    record {
      bound = omega (arith, c.loop-marked.invariant.bound, length-set a.bits.items (c.in-Some.marked.number / 64) 0);
      left = are_left-clear a.bits.items c.pop.new.self.items c.in-Some.marked left;
    }
