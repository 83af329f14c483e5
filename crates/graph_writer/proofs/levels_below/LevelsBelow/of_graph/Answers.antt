use Rattle.std.proofs.Common.{◌≡◌, List, All, None, subst}
use Rattle.std.specs.Prelude.{IfSome, IfNone}
use Rattle.graph_walks.specs.Dates.{AreRight}
use Rattle.graph_format.specs.Layer.{Layer}
use Rattle.graph_format.specs.StoredHistory.{history_of}
use Rattle.graph_chunks.specs.GraphDates.{graph_dates_refusal}
use Rattle.graph_format.specs.OptionalChunks.{HasDates}
use Rattle.graph_chunks.specs.GraphStoredDates.{times_of, dates_of}
use Rattle.graph_writer.proofs.levels.FitSteps.{graph-levels}
use Rattle.graph_writer.proofs.levels_below.LevelsBelow.of_graph.Goals as goal

pub returns-clause-levels : goal.returns-clause-levels
returns-clause-levels c =
    let dates = c.in-Ok.dates in
    let same = c.graph.ensures.same in
    graph-levels c.args.graph.now.layers _ dates c.num_commits-commits.ensures.right c.num_commits-commits.ensures.graph
    c.in_ok-levels_of.ensures.as_many c.in_ok-levels_of.ensures.generations c.in_ok-levels_of.ensures.dates c.is_some.ensures
    (subst (λ (g : List Layer). IfSome dates (λ _. All HasDates g)) same c.in-Ok.ensures.some)
    (subst (λ (g : List Layer). IfNone dates (¬ All HasDates g)) same c.in-Ok.ensures.none)
    (subst (λ (g : List Layer). IfSome dates (λ found. found ≡ dates_of g)) same c.in-Ok.ensures.stored)
    (subst (λ (g : List Layer). IfSome dates (λ found. AreRight (history_of g) (times_of g) found)) same c.in-Ok.ensures.right)
    (subst (λ (g : List Layer). IfSome dates (λ _. graph_dates_refusal g ≡ None)) same c.in-Ok.ensures.accepted)
