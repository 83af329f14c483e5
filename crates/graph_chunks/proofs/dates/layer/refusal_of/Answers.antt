use Rattle.std.proofs.Common.{sym}
use Rattle.graph_chunks.proofs.DecodingLemmas.{refused}
use Rattle.graph_chunks.proofs.dates.layer.refusal_of.Goals as goal

pub returns-in-Err-date_of-clause-refusal : goal.returns-in-Err-date_of-clause-refusal
returns-in-Err-date_of-clause-refusal c =
    sym (refused c.args.offsets.now c.args.overflow.now c.args.times.now c.loop-pos.pos c.in-Err-date_of.fault
    c.in_default.ensures.offsets c.in_default.ensures.overflow c.loop-pos.invariant c.in-Err-date_of.ensures.fault
    c.loop-pos-test.true)
