use Rattle.std.proofs.Common.{◌≡◌, ℕ, ◌<◌, All, length, sym, subst, ◌∙◌}
use Rattle.graph_format.specs.StoredHistory.{history_of}
use Rattle.gix_commitgraph.specs.Graph.{total}
use Rattle.graph_history.proofs.IdLemmas.{reaches_by_ids, shortest_by_ids, base_by_ids}
use Rattle.graph_history.proofs.law.ids.questions_about_distinct_ids_are_those_about_positions.Goals as goal

pub returns-clause-ancestors : goal.returns-clause-ancestors
returns-clause-ancestors c = λ layers p q from to opened distinct begins ends.
    let counted : length (history_of layers) ≡ total layers =
    c.the_history_of_a_graph_is_that_of_its_layers.ensures.counted layers opened in
    reaches_by_ids layers distinct ((c.the_commits_of_layers_add_up.ensures layers).ids ∙ sym counted)
    (λ ids. c.walks_over_distinct_ids_are_walks_over_positions.ensures layers ids opened distinct) p q from to begins ends

pub returns-clause-walks : goal.returns-clause-walks
returns-clause-walks c = λ layers p q from to walk opened distinct begins ends.
    let counted : length (history_of layers) ≡ total layers =
    c.the_history_of_a_graph_is_that_of_its_layers.ensures.counted layers opened in
    shortest_by_ids layers distinct ((c.the_commits_of_layers_add_up.ensures layers).ids ∙ sym counted)
    (λ ids. c.walks_over_distinct_ids_are_walks_over_positions.ensures layers ids opened distinct) p q from to begins ends walk

pub returns-clause-bases : goal.returns-clause-bases
returns-clause-bases c = λ layers first p others first_id id opened distinct begins all here.
    let counted : length (history_of layers) ≡ total layers =
    c.the_history_of_a_graph_is_that_of_its_layers.ensures.counted layers opened in
    let within : All (λ other. other < length (history_of layers)) others =
    subst (λ (n : ℕ). All (λ other. other < n) others) (sym counted) all in
    base_by_ids layers distinct ((c.the_commits_of_layers_add_up.ensures layers).ids ∙ sym counted)
    (λ ids. c.walks_over_distinct_ids_are_walks_over_positions.ensures layers ids opened distinct) first others first_id begins
    within p id here
