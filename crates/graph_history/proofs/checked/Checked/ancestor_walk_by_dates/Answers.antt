use Rattle.std.proofs.Common.{refl}
use Rattle.graph_format.specs.StoredHistory.{history_of}
use Rattle.graph_chunks.specs.GraphStoredDates.{times_of}
use Rattle.graph_history.proofs.checked.Checked.ancestor_walk_by_dates.Goals as goal

-- the searcher is over the graph, whose dates fall along parents
pub ancestor_walk_by-requires : goal.ancestor_walk_by-requires
ancestor_walk_by-requires c =
    let layers = c.args.self.now.layers in
    let along =
    c.corrected_dates_fall_along_parents.ensures (history_of layers) (times_of layers) c.args.dates.now
    c.requires.dates.right in
    λ k. (
      (refl, tt),
      (
        rw c.requires.searcher c.requires.from,
        (rw c.requires.searcher c.requires.to, rw (c.new-ranks.ensures, c.requires.searcher) along),
      ),
    )
