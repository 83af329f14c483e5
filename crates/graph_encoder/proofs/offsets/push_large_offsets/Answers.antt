use Rattle.std.proofs.Common.{◌∙◌, sym, ap, true, false, append-nil}
use Rattle.graph_encoder.proofs.Pushes.{longs_bytes-nil, large-more}
use Rattle.graph_encoder.proofs.offsets.push_large_offsets.Goals as goal
use Rattle.graph_encoder.proofs.offsets.push_large_offsets.Goals.{then-is_large+in_ok-push_long, else-is_large}

pub loop-offset-init : goal.loop-offset-init
loop-offset-init c = longs_bytes-nil c.args.file.now.items

pub loop-offset-preserved : goal.loop-offset-preserved
loop-offset-preserved c =
    elim c.if-is_large.branch [
      | then-is_large+in_ok-push_long w ↦
          large-more c.args.file.now.items c.loop-offset.file.items _ c.args.offsets.now c.loop-offset.offset-index true
          c.loop-offset-test.true c.loop-offset.invariant (sym w.if-is_large.true ∙ c.is_large.ensures)
          (ap (λ f. f.items) w.file-is ∙ w.in_ok-push_long.ensures)
      | else-is_large w ↦
          large-more c.args.file.now.items c.loop-offset.file.items _ c.args.offsets.now c.loop-offset.offset-index false
          c.loop-offset-test.true c.loop-offset.invariant (sym w.if-is_large.false ∙ c.is_large.ensures)
          (ap (λ f. f.items) w.file-is ∙ sym (append-nil c.loop-offset.file.items))
    ]
