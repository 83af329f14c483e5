-- The bytes were added as far as there is room.
use Rattle.std.proofs.Common.{◌-◌, arith, ◌∙◌}
use Rattle.question_lines.proofs.LineLemmas.{kept_in_room}
use Rattle.question_lines.proofs.lines.keep.Goals as goal

pub returns-in-Ok-clause-kept : goal.returns-in-Ok-clause-kept
returns-in-Ok-clause-kept c =
    let sized = c.args.line.now.ok in
    c.in-Ok.ensures.items
    ∙ kept_in_room c.args.line.now.items c.args.bytes.now (1048578 - c.len-room.result) c.min.result c.requires
    (omega (arith, sized.0, c.len-room.ensures)) c.min.ensures
