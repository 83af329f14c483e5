use Rattle.std.proofs.Common.{arith}
use Rattle.commit_objects.proofs.WrittenLemmas.{none_compared, one_more, all_compared, decoded}
use Rattle.commit_objects.proofs.written.are_digits_of.Goals as goal

pub loop-i-init : goal.loop-i-init
loop-i-init g c = none_compared c.args.text.now c.args.bytes.now

pub loop-i-preserved : goal.loop-i-preserved
loop-i-preserved g c =
    one_more c.args.text.now c.args.bytes.now c.loop-i.i c.loop-i.same (omega (arith, c.requires.sized))
    (omega (arith, c.requires.digits, c.requires.sized)) (omega (arith, c.type_inv.bytes c.loop-i.i)) c.loop-i.invariant

pub returns-clause-same : goal.returns-clause-same
returns-clause-same g c =
    all_compared c.args.text.now c.args.bytes.now c.loop-i.i c.loop-i.same (omega (arith, c.requires.sized))
    (omega (arith, c.requires.digits, c.requires.sized)) c.loop-i.invariant

pub returns-clause-decoded : goal.returns-clause-decoded
returns-clause-decoded g c = λ all.
    let same = all_compared c.args.text.now c.args.bytes.now c.loop-i.i c.loop-i.same (omega (arith, c.requires.sized))
    (omega (arith, c.requires.digits, c.requires.sized)) c.loop-i.invariant in
    decoded c.args.text.now c.args.bytes.now (same.0 all) (λ i. omega (arith, c.type_inv.bytes i))
