-- The new graph stands, or the one before.
use Rattle.std.proofs.Common.{refl, sym}
use Rattle.std.specs.Prelude.{Ok, Err}
use Rattle.question_answers.specs.Taken.{taken_line}
use Rattle.question_commands.proofs.asking.reload.Goals as goal

pub returns-in_ok-write_taken-in-Ok-clause-told : goal.returns-in_ok-write_taken-in-Ok-clause-told
returns-in_ok-write_taken-in-Ok-clause-told g c =
    let taken = Ok c.take_anew.new.graph.layers in
    let takes = rw (c.act.ensures.failures, sym c.take_anew.ensures.tree) at c.in-Ok.ensures.taken in
    (taken_line taken, (taken, takes.0, refl, refl, takes.1), c.in_ok-write_taken-in-Ok.ensures)

pub returns-in_ok-write_refused-in-Err-clause-told : goal.returns-in_ok-write_refused-in-Err-clause-told
returns-in_ok-write_refused-in-Err-clause-told g c =
    let taken = Err c.in-Err.refusal in
    let takes = rw (c.act.ensures.failures, sym c.take_anew.ensures.tree) at c.in-Err.ensures.taken in
    (taken_line taken, (taken, takes.0, refl, takes.1, refl), c.in_ok-write_refused-in-Err.ensures)
