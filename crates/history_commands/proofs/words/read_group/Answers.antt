use Rattle.std.proofs.Common.{map, string_bytes}
use Rattle.std.proofs.lemmas.Result.{err_from_is_err_and}
use Rattle.history_commands.proofs.AskLemmas.{not_read_later}
use Rattle.history_commands.proofs.words.read_group.Goals as goal

pub returns-in_err-others-clause-refused : goal.returns-in_err-others-clause-refused
returns-in_err-others-clause-refused c =
    let answered = err_from_is_err_and c.from_residual-in_err-others.result c.from_residual-in_err-others.ensures.1 in
    let first = rw c.as_bytes.ensures.value at c.in_ok-first.ensures.ok in
    rw (answered.1, answered.2)
    (not_read_later c.args.first.now (map string_bytes c.args.others.now) c.in_ok-first.first c.in_err-others.field-0.0 first
    c.in_err-others.ensures.refused)
