use Rattle.std.proofs.Common.{◌≡◌, ◌∙◌, Some, drop, map, slice_get, option_map, set, sym, ap, arith}
use Rattle.std.proofs.lemmas.Option.{slice_get-map}
use Rattle.gix_commitgraph.specs.Graph.{graph_commits}
use Rattle.graph_layer.specs.Commit.{layer_and_position}
use Rattle.c_opening.specs.Answers.{told_commit}
use Rattle.c_opening.proofs.Written.{item_at, items_after, next_item}
use Rattle.commitgraph_c.proofs.blocks.write_commits.Goals as goal

pub loop-place-preserved : goal.loop-place-preserved
loop-place-preserved c =
    let commits = drop c.args.first (graph_commits c.args.graph.now) in
    let place = c.loop-place.place in
    let commit = layer_and_position c.in-Some.commit in
    let left = sym c.loop-place.invariant.1 ∙ c.in-Some.ensures.steps in
    let here : slice_get (map told_commit commits) place ≡ Some c.told.result =
    slice_get-map told_commit commits place
    ∙ ap (option_map told_commit) (item_at commits place commit _ left)
    ∙ ap (λ t. Some t) (sym c.told.ensures) in (
      ap (λ xs. set xs place c.told.result) c.loop-place.invariant.0
          ∙ next_item (map told_commit commits) place c.told.result c.args.out.now here (omega arith),
      items_after commits place commit _ left,
    )
