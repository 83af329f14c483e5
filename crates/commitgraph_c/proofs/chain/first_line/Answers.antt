use Rattle.std.proofs.Common.{◌≡◌, ◌∷◌, [], ◌+◌, ◌<◌, ◌≤◌, ◌∙◌, length, take, drop, sym, ap, arith}
use Rattle.std.proofs.Math.Seq.{drop-length}
use Rattle.std.proofs.lemmas.List.{take-take, take_all}
use Rattle.std.specs.Str.Lines.{lines}
use Rattle.graph_folder.proofs.LineLemmas.{lines_last, lines_first}
use Rattle.c_opening.proofs.Written.{first_places}
use Rattle.commitgraph_c.proofs.chain.first_line.Goals as goal

pub returns-in-Some-clause-line : goal.returns-in-Some-clause-line
returns-in-Some-clause-line c =
    let text = c.args.text.now in
    let end = c.end_of.result in
    let newline = c.in-Some.newline in
    let inside : newline < length text = c.in-Some.ensures.inside in
    let whole : length (take newline text) ≡ newline = first_places text newline (omega (arith, inside)) in
    let before : end ≤ newline = omega (arith, whole, c.end_of.ensures.within) in
    lines_first text newline (sym c.in-Some.ensures.value)
    ∙ ap (λ l. l ∷ lines (drop (newline + 1) text)) (sym c.end_of.ensures.end ∙ take-take end newline text before)

pub returns-in-None-clause-line : goal.returns-in-None-clause-line
returns-in-None-clause-line c =
    let text = c.args.text.now in
    lines_last text c.requires (sym c.in-None.ensures.value)
    ∙ ap (λ l. l ∷ []) (sym (take_all (length text) text (omega arith)))
    ∙ ap (λ r. take (length text) text ∷ lines r) (sym (drop-length text))
