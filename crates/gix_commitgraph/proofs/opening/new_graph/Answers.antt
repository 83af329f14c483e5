use Rattle.std.proofs.lemmas.Result.{err_from_is_err_and}
use Rattle.gix_commitgraph.proofs.opening.OpenErrorLemmas.{layers_error}
use Rattle.gix_commitgraph.proofs.opening.new_graph.Goals as goal

pub returns-in_err-new-clause-errors : goal.returns-in_err-new-clause-errors
returns-in_err-new-clause-errors c =
    let handed = err_from_is_err_and c.from_residual.result c.from_residual.ensures.1 in
    rw (handed.1, handed.2) (layers_error c.args.files.items _ c.in_err-new.ensures.refusal)
