use Rattle.std.proofs.lemmas.Result.{IfOk-weaker}
use Rattle.graph_format.specs.StoredHistory.{history_of}
use Rattle.commit_search.specs.Positions.{numbers_of}
use Rattle.graph_bases.specs.Bases.{AreVisits}
use Rattle.graph_history.specs.GraphComparison.{IsComparisonOf}
use Rattle.graph_bases.specs.declared.bases.Comparison.{Comparison}
use Rattle.graph_history.proofs.checked.Checked.compare.Goals as goal

pub returns-clause-visits : goal.returns-clause-visits
returns-clause-visits c =
    let layers = c.args.self.now.layers in
    let h = history_of layers in
    let a = c.args.first.0 in
    let bs = numbers_of c.args.others.now in
    IfOk-weaker c.compare.result (IsComparisonOf layers a bs)
    (λ (x : Comparison). AreVisits h a bs x.bases.visits) (λ x is. is.visits)
    (rw c.new.ensures at c.compare.ensures.exact)
