-- There is a date for each commit of the graph.
use Rattle.std.proofs.Common.{◌≡◌, ◌∙◌, ℕ, List, Option, Some, None, length, subst, sym}
use Rattle.std.specs.Prelude.{IfSome}
use Rattle.graph_format.specs.Layer.{Layer}
use Rattle.graph_format.specs.StoredHistory.{history_of}
use Rattle.gix_commitgraph.specs.Graph.{total}
use Rattle.gix_commitgraph.proofs.history.HistoryLemmas.{length-history}
use Rattle.graph_history.specs.GraphComparison.{AreDatesOf}
use Rattle.newer_commands.proofs.run.answer_in.Goals as goal

counted : (layers : List Layer) (commits : ℕ) → commits ≡ total layers → length (history_of layers) ≡ total layers
    → (dates : Option (List ℕ)) → IfSome dates (AreDatesOf layers) → IfSome dates (λ known. commits ≡ length known)
counted layers commits are many None of = tt
counted layers commits are many (Some dates) of = are ∙ sym many ∙ sym of.right.as_many

pub ranks_over-ranks-requires : goal.ranks_over-ranks-requires
ranks_over-ranks-requires g c =
    let layers = c.args.checked.now.layers in
    subst (λ (dates : Option (List ℕ)). IfSome dates (λ known. c.num_commits-commits.result ≡ length known))
    (sym c.as_ref.ensures.value)
    (counted layers c.num_commits-commits.result c.num_commits-commits.ensures.commits
    (length-history layers c.num_commits-commits.ensures.graph.opened) c.dates_for-dates.result c.dates_for-dates.ensures)
