use Rattle.std.proofs.Common.{arith}
use Rattle.graph_ancestors.proofs.commits.commit_of.Goals as goal

pub commit_at-requires : goal.commit_at-requires
commit_at-requires c =
    let long =
    c.the_history_of_a_graph_is_that_of_its_layers.ensures.counted c.args.graph.now c.requires.graph.opened in
    omega (arith, c.requires.pos, long)
