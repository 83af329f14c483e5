-- There are some lines where there are bases.
use Rattle.std.specs.List.{flat_map}
use Rattle.answer_lines.specs.AnswerLines.{id_line}
use Rattle.answer_lines.proofs.LineLemmas.{adds_same, some_lines}
use Rattle.answer_lines.proofs.push.push_base_ids.Goals as goal

pub returns : goal.returns
returns g c =
    let bases = c.args.bases.now in
    let lines = flat_map id_line c.args.ids.now in
    adds_same c.push_ids.result _ _ lines _
    (some_lines bases lines (λ none. let is = rw none at c.is_empty.ensures in let other = c.if-is_empty.false in cc))
    c.push_ids.ensures
