use Rattle.std.proofs.Common.{List, ℕ, length, ap, subst, ◌∙◌}
use Rattle.graph_walks.specs.Dates.{AreRight}
use Rattle.graph_format.specs.StoredHistory.{history_of}
use Rattle.graph_chunks.specs.GraphStoredDates.{times_of}
use Rattle.graph_chunks.proofs.DateCheckLemmas.{follow-all}
use Rattle.graph_chunks.proofs.StoredDateLemmas.{length-dates_of}
use Rattle.graph_chunks.proofs.dates.CorrectedDates.of_graph.Goals as goal

pub check_dates-requires-clause-dates : goal.check_dates-requires-clause-dates
check_dates-requires-clause-dates c =
    ap (λ (ds : List ℕ). length ds) c.deref.ensures.value
    ∙ ap (λ (ds : List ℕ). length ds) c.in-Ok.ensures.dates
    ∙ length-dates_of c.args.graph.now c.num_commits-commits.ensures.graph.opened

pub returns-in-Ok-check_dates-clause-commits : goal.returns-in-Ok-check_dates-clause-commits
returns-in-Ok-check_dates-clause-commits c =
    ap (λ (ds : List ℕ). length ds) c.in-Ok.ensures.dates
    ∙ length-dates_of c.args.graph.now c.num_commits-commits.ensures.graph.opened

pub returns-in-Ok-check_dates-clause-sound : goal.returns-in-Ok-check_dates-clause-sound
returns-in-Ok-check_dates-clause-sound c sound =
    let layers = c.args.graph.now in
    follow-all layers c.in-Ok.dates.items c.num_commits-commits.ensures.graph.opened sound
    (subst (AreRight (history_of layers) (times_of layers)) c.deref.ensures.value c.in-Ok-check_dates.ensures.right)
