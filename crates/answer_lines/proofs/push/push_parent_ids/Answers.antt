-- One more parent is added.
use Rattle.std.proofs.Common.{append-nil, arith, subst, sym}
use Rattle.std.specs.Prelude.{codes}
use Rattle.std.specs.Io.KnownBytes.{Appends}
use Rattle.answer_lines.proofs.LineLemmas.{parent_more}
use Rattle.answer_lines.proofs.push.push_parent_ids.Goals as goal

pub loop-id-init : goal.loop-id-init
loop-id-init g c = subst (Appends _ _) (sym (append-nil (codes "parents"))) c.in_ok-push_text.ensures

pub loop-id-preserved : goal.loop-id-preserved
loop-id-preserved g c =
    parent_more c.args.ids.now c.loop-id.id-index c.id-item.result _ _ _ (omega arith) c.id-item.is
    c.loop-id.invariant (rw c.as_oid.ensures at c.in_ok-push_parent.ensures)
