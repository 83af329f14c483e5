-- How many commits the graph has is told, or why it is refused.
use Rattle.std.proofs.Common.{refl}
use Rattle.std.specs.Prelude.{Ok, Err}
use Rattle.question_answers.specs.Taken.{opened_line}
use Rattle.unchecked_questions.proofs.TrustingLemmas.{adds_line}
use Rattle.unchecked_questions.proofs.trusting.reload.Goals as goal

pub returns-in-Ok-clause-told : goal.returns-in-Ok-clause-told
returns-in-Ok-clause-told g c =
    let count = Ok c.in-Ok.commits in
    adds_line c.write_count.result _ (opened_line count) _ _ (count, rw c.in-Ok.is at c.keep_anew.ensures.count, refl)
    c.write_count.ensures

pub returns-in-Err-clause-told : goal.returns-in-Err-clause-told
returns-in-Err-clause-told g c =
    let count = Err c.in-Err.refusal in
    adds_line c.write_refused.result _ (opened_line count) _ _ (count, rw c.in-Err.is at c.keep_anew.ensures.count, refl)
    c.write_refused.ensures
