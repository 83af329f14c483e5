use Rattle.std.proofs.Common.{◌≡◌}
use Rattle.graph_format.specs.StoredHistory.{history_of}
use Rattle.commit_search.specs.Positions.{numbers_of}
use Rattle.commit_search.specs.Ranks.{by_date}
use Rattle.graph_chunks.specs.GraphStoredDates.{times_of}
use Rattle.graph_history.proofs.ComparisonLemmas.{ranked_comparison}
use Rattle.graph_history.proofs.bases.Comparer.compare_by_dates.Goals as goal

pub returns-clause-exact : goal.returns-clause-exact
returns-clause-exact c =
    let layers = c.args.self.now.layers in
    let dates = c.args.dates.now in
    let made : c.new-commits.result ≡ layers = cc in
    let same : c.compare_by.new.commits ≡ layers = cc in
    let along =
    c.corrected_dates_fall_along_parents.ensures (history_of layers) (times_of layers) dates c.requires.dates.right in
    ranked_comparison layers c.compare_by.new.commits same (by_date dates) along c.args.first.0
    (numbers_of c.args.others.now) c.compare_by.result (rw made at c.compare_by.ensures.within)
    (rw c.new-ranks.ensures at c.compare_by.ensures.exact)
