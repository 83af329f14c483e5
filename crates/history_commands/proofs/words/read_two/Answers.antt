use Rattle.std.proofs.Common.{inr, inl}
use Rattle.std.proofs.lemmas.Result.{err_from_is_err_and}
use Rattle.history_commands.proofs.words.read_two.Goals as goal

pub returns-in_err-second-clause-refused : goal.returns-in_err-second-clause-refused
returns-in_err-second-clause-refused c =
    let answered = err_from_is_err_and c.from_residual-in_err-second.result c.from_residual-in_err-second.ensures.1 in
    let first = rw c.as_bytes.ensures.value at c.in_ok-first.ensures.ok in
    let second = rw c.as_bytes-2.ensures.value at c.in_err-second.ensures.err in
    rw (answered.1, answered.2) (inr (c.in_ok-first.first, first, inl second))
