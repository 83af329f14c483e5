-- One more line is added, and in the end those of all bases are.
use Rattle.std.proofs.Common.{subst, arith}
use Rattle.std.specs.Io.KnownBytes.{Appends}
use Rattle.answer_lines.proofs.LineLemmas.{lines_all, lines_more}
use Rattle.answer_lines.proofs.push.push_base_lines.Goals as goal

pub loop-place-preserved : goal.loop-place-preserved
loop-place-preserved g c =
    lines_more c.args.bases.now c.args.ids.now c.loop-place.place (record { 0 = 0 }) c.index-ids-place.result
    _ _ _ (omega arith) (omega arith) c.index-ids-place.is c.loop-place.invariant
    (rw c.as_oid.ensures at c.in_ok-push_base.ensures)

pub returns : goal.returns
returns g c =
    let all = lines_all c.args.bases.now c.args.ids.now c.loop-place.place (omega arith) in
    subst (Appends _ _) all c.loop-place.invariant
