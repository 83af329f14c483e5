use Rattle.std.proofs.Common.{◌<◌, ℕ, List, All, map, sym, ap, subst, ◌∙◌}
use Rattle.graph_format.specs.declared.Position.{Position}
use Rattle.graph_layer.specs.Commit.{commit_layer, commit_parents, commit_pos}
use Rattle.graph_layer.specs.RemainingParents.{parents_left}
use Rattle.gix_commitgraph.specs.Graph.{total}
use Rattle.graph_history.specs.RightGraph.{positions_among}
use Rattle.graph_history.proofs.RightGraphLemmas.{items_given, among-items, all_within}
use Rattle.graph_history.proofs.parents.ParentPositions.new.Goals as goal

pub invariant_of-result : goal.invariant_of-result
invariant_of-result c =
    let commit = c.commit_at.result in
    let decoded =
    c.the_parents_of_a_right_graph_are_there.ensures.decoded c.args.graph.now c.args.pos.0 (commit_pos commit)
    (commit_layer commit) c.num_commits.ensures.graph.opened c.requires.sound c.commit_at.ensures in
    items_given (parents_left c.iter_parents.result) (commit_parents commit) decoded c.iter_parents.ensures.items

-- the parents that the history has of the commit are those of its record
pub returns-clause-exact : goal.returns-clause-exact
returns-clause-exact c =
    let commit = c.commit_at.result in
    let layers = c.args.graph.now in
    let opened = c.num_commits.ensures.graph.opened in
    let decoded =
    c.the_parents_of_a_right_graph_are_there.ensures.decoded layers c.args.pos.0 (commit_pos commit) (commit_layer commit)
    opened c.requires.sound c.commit_at.ensures in
    let told =
    c.the_history_of_a_graph_says_what_its_records_say.ensures.parents layers c.args.pos.0 (commit_pos commit)
    (commit_layer commit) opened c.commit_at.ensures in
    ap (map (λ (q : Position). q.0))
    (among-items (parents_left c.iter_parents.result) (commit_parents commit) decoded c.iter_parents.ensures.items)
    ∙ sym told

pub returns-clause-within : goal.returns-clause-within
returns-clause-within c =
    all_within (total c.args.graph.now) (positions_among (parents_left c.iter_parents.result))
    (subst (λ (qs : List ℕ). All (λ q. q < total c.args.graph.now) qs) (sym (returns-clause-exact c))
    (c.the_parents_of_a_right_graph_are_there.ensures.there c.args.graph.now c.args.pos.0 c.num_commits.ensures.graph.opened
    c.requires.sound))
