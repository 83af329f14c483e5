use Rattle.std.proofs.Common.{◌<◌, All, Ok, sym, ap, ◌∙◌, subst}
use Rattle.graph_layer.specs.Commit.{commit_layer, commit_parents, commit_pos}
use Rattle.gix_commitgraph.specs.Graph.{total}
use Rattle.filter_checks.proofs.TreeLemmas.{first_within}
use Rattle.filter_checks.proofs.commit.parent_tree.Goals as goal

pub root_tree-requires : goal.root_tree-requires
root_tree-requires c =
    let commit = c.commit_at.result in
    let layers = c.args.graph.now in
    let opened = c.num_commits.ensures.graph.opened in
    let decoded =
    c.the_parents_of_a_right_graph_are_there.ensures.decoded layers c.args.pos.0 (commit_pos commit) (commit_layer commit)
    opened c.requires.sound c.commit_at.ensures in
    let told =
    c.the_history_of_a_graph_says_what_its_records_say.ensures.parents layers c.args.pos.0 (commit_pos commit)
    (commit_layer commit) opened c.commit_at.ensures in
    let there = c.the_parents_of_a_right_graph_are_there.ensures.there layers c.args.pos.0 opened c.requires.sound in
    let first = sym c.parent1.ensures ∙ c.unwrap.ensures ∙ ap (λ o. Ok o) c.in_ok-parent.was in
    first_within (commit_parents commit) (total layers) c.in_ok-parent.parent decoded first
    (subst (λ ps. All (λ q. q < total layers) ps) told there)
