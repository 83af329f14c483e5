use Rattle.std.proofs.Common.{sym, ap, ◌∙◌, length, arith}
use Rattle.std.specs.Option.{option_and_then}
use Rattle.gix_chunk_core.proofs.FirstFaultLemmas.{first_below-none, first_below-none_more, first_below-found}
use Rattle.graph_writer.specs.WriteRefusal.{own_refusal, own_refusal_at}
use Rattle.graph_writer.proofs.check.check_each.Goals as goal

pub loop-number-init : goal.loop-number-init
loop-number-init g c = first_below-none (own_refusal_at c.args.kind c.args.commits.now)

pub returns-in-Some : goal.returns-in-Some
returns-in-Some g c =
    let commits = c.args.commits.now in
    let i = c.loop-number.number in
    first_below-found (own_refusal_at c.args.kind commits) i (length commits) _ c.loop-number.invariant
    (ap (option_and_then (own_refusal c.args.kind i)) c.at-commit.ensures ∙ sym c.in-Some.ensures)
    (omega (arith, c.len-number-end.ensures))

pub loop-number-preserved : goal.loop-number-preserved
loop-number-preserved g c =
    let i = c.loop-number.number in
    first_below-none_more (own_refusal_at c.args.kind c.args.commits.now) i c.loop-number.invariant
    (ap (option_and_then (own_refusal c.args.kind i)) c.at-commit.ensures ∙ sym c.in-None.ensures)
