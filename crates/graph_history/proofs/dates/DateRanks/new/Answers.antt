use Rattle.std.proofs.Common.{◌≡◌, length, arith}
use Rattle.graph_format.specs.StoredHistory.{history_of}
use Rattle.gix_commitgraph.specs.Graph.{total}
use Rattle.graph_history.proofs.dates.DateRanks.new.Goals as goal

-- there is a date for each commit
pub invariant_of-ranks : goal.invariant_of-ranks
invariant_of-ranks c =
    let layers = c.args.graph.now in
    let opened = c.num_commits-count.ensures.graph.opened in
    let counted : length (history_of layers) ≡ total layers =
    c.the_history_of_a_graph_is_that_of_its_layers.ensures.counted layers opened in
    let count : c.num_commits-count.result ≡ total layers = c.num_commits-count.ensures.commits in
    omega (arith, count, counted, c.requires.right.as_many)
