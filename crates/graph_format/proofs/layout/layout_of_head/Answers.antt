use Rattle.std.proofs.Common.{arith, refl}
use Rattle.std.proofs.lemmas.Result.{err_from_is_err_and}
use Rattle.gix_chunk_core.proofs.HeadLemmas.{filled-len}
use Rattle.graph_format.proofs.HeadLemmas.{refused-by-head, refused-by-fan, outline-table, layout_of_head-each}
use Rattle.graph_format.proofs.layout.layout_of_head.Goals as goal

pub returns-in_err-outline-clause-refused : goal.returns-in_err-outline-clause-refused
returns-in_err-outline-clause-refused c =
    let handed = err_from_is_err_and c.from_residual.result c.from_residual.ensures.1 in
    rw (handed.1, handed.2)
    (refused-by-head c.args.front.now c.args.len _ c.requires (c.if-not-holds_table.ensures.table refl)
    c.in_err-outline.ensures.refusal)

pub returns-then-outline-front-clause-whole : goal.returns-then-outline-front-clause-whole
returns-then-outline-front-clause-whole c = λ same.
    let inside = c.in_ok-outline.ensures.outline.chunks.fan.in_file in
    absurd (omega (arith, same, inside, c.if-outline-front.true, filled-len c.args.front.now c.args.len (omega (arith, same))))

pub returns-in_err-layout-clause-refused : goal.returns-in_err-layout-clause-refused
returns-in_err-layout-clause-refused c =
    let outline = c.in_ok-outline.ensures in
    let handed = err_from_is_err_and c.from_residual-in_err-layout.result c.from_residual-in_err-layout.ensures.1 in
    rw (handed.1, handed.2)
    (refused-by-fan c.args.front.now c.args.len _ _ c.requires (c.if-not-holds_table.ensures.table refl) outline.outline
    (omega arith) outline.refusal c.in_err-layout.ensures.refusal)

pub returns-clause-layout : goal.returns-clause-layout
returns-clause-layout c =
    let outline = c.in_ok-outline.ensures.outline in
    let kept = c.in_ok-layout.ensures in
    layout_of_head-each c.args.front.now c.args.len _ c.requires
    (outline-table c.args.front.now c.args.len _ c.requires (c.if-not-holds_table.ensures.table refl) outline)
    (rw kept.fan (omega arith)) kept.layout
