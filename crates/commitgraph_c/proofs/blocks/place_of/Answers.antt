use Rattle.std.proofs.Common.{List, ap, arith, length}
use Rattle.graph_format.specs.Layer.{Layer}
use Rattle.graph_layer.specs.Commit.{commit_layer}
use Rattle.gix_commitgraph.specs.Graph.{start}
use Rattle.gix_commitgraph.proofs.layers.LayerListLemmas.{start-all}
use Rattle.commitgraph_c.proofs.LayerPlaces.{IsPlace, commit_place}
use Rattle.commitgraph_c.proofs.blocks.place_of.Goals as goal

pub returns-then-pos-num_commits-clause-place : goal.returns-then-pos-num_commits-clause-place
returns-then-pos-num_commits-clause-place c =
    let layers = c.args.graph.now in
    let same = ap (λ (ls : List Layer). start layers (length ls)) c.layers.ensures.same in
    omega (arith, same, start-all layers (length layers) (omega arith), c.num_commits.ensures.commits)

pub returns : goal.returns
returns c =
    let place : IsPlace c.args.graph.now c.args.pos c.layer_of_counted-layer.result.0 c.position-place.result.0 =
    rw c.position-place.ensures.value
    (commit_place c.args.graph.now c.args.pos c.layer_of_counted-layer.result.0 c.commit_at.result.pos.0
    (commit_layer c.commit_at.result) c.layer_of_counted-layer.ensures.layer c.layer_of_counted-layer.ensures.from
    c.layer_of_counted-layer.ensures.below c.commit_at.ensures) in
    record { place = omega (arith, place.at, c.num_commits.ensures.commits); within = place.within }
