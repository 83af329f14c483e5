-- The layers that are shown have as many commits.
use Rattle.std.proofs.Common.{◌≤◌, List, length, ap, ◌∙◌}
use Rattle.std.specs.List.{sum_by}
use Rattle.std.proofs.lemmas.List.{take_all}
use Rattle.graph_parts.specs.Shown.{commits_of_part}
use Rattle.graph_parts.specs.declared.layer.LayerParts.{LayerParts}
use Rattle.graph_parts.proofs.GraphPartLemmas.{shows-total}
use Rattle.graph_parts.proofs.parts.GraphParts.commits.Goals as goal

pub returns-clause-total : goal.returns-clause-total
returns-clause-total c = λ known layers shows.
    let items = c.args.self.now.layers.items in
    let past : length items ≤ c.loop-part.part-index = rw (← c.deref-part-items.ensures.value) c.loop-part-test.false in
    c.loop-part.invariant
    ∙ ap (λ (parts : List LayerParts). sum_by commits_of_part parts) (take_all c.loop-part.part-index items past)
    ∙ shows-total known items layers shows c.requires.each
