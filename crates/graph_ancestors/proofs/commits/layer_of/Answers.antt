use Rattle.std.proofs.Common.{◌<◌, sym, ◌∙◌, arith}
use Rattle.gix_commitgraph.specs.Graph.{total}
use Rattle.gix_commitgraph.proofs.lookup.ElementLemmas.{some-place}
use Rattle.graph_ancestors.proofs.commits.layer_of.Goals as goal

pub returns-clause-lies : goal.returns-clause-lies
returns-clause-lies c =
    let at = c.layer_of_counted.ensures in
    let layer = some-place c.args.graph.now c.layer_of_counted.result.0 at.layer in
    (layer.0, record { there = layer.1; from = at.from; below = at.below })

pub returns-clause-only : goal.returns-clause-only
returns-clause-only c = λ l other lies.
    let layers = c.args.graph.now in
    let long = c.the_history_of_a_graph_is_that_of_its_layers.ensures.counted layers c.requires.graph.opened in
    let below : c.args.pos.0 < total layers = omega (arith, c.requires.pos, long) in
    let one = c.a_position_lies_in_one_layer.ensures layers c.args.pos.0 below in
    let here = returns-clause-lies c in
    one.only l other lies ∙ sym (one.only c.layer_of_counted.result.0 here.0 here.1)
