-- What is told may be told for the line.
use Rattle.std.proofs.Common.{inl, inr, refl, rules}
use Rattle.std.specs.Prelude.{Err}
use Rattle.graph_commands.specs.declared.refusal.Refusal.TheVariants.{Walk}
use Rattle.question_answers.specs.AnsweredLines.{refused_line}
use Rattle.question_answers.specs.Taken.{opened_line}
use Rattle.question_answers.proofs.AnsweredLemmas.{finishes}
use Rattle.question_answers.proofs.answering.answer_line.Goals as goal

pub returns-in-Ok-Some-Reload-clause-reload : goal.returns-in-Ok-Some-Reload-clause-reload
returns-in-Ok-Some-Reload-clause-reload g c = λ no.
    let asks = rw (c.in-Ok-Some-Reload.field-0-is, c.in-Ok-Some-Reload.field-0-0-is) at c.in-Ok-Some-Reload.ensures.asked in
    (asks, refl, refl)

pub returns-in_ok-answer-in-Ok-Some-clause-told : goal.returns-in_ok-answer-in-Ok-Some-clause-told
returns-in_ok-answer-in-Ok-Some-clause-told g c =
    let asks = rw c.in-Ok-Some.field-0-is at c.in-Ok-Some.ensures.asked in
    let added = c.in_ok-answer-in-Ok-Some.ensures.told in
    finishes c.finish.result _ added.0 c.args.buffer.now _ _ _
    (inr (inr (c.in-Ok-Some.question, asks, search rules, added.1))) c.requires.buffer added.2 c.finish.ensures.written

pub returns-in_ok-push_text-in-Ok-None-clause-told : goal.returns-in_ok-push_text-in-Ok-None-clause-told
returns-in_ok-push_text-in-Ok-None-clause-told g c =
    let nothing = rw c.in-Ok-None.field-0-is at c.in-Ok-None.ensures.nothing in
    finishes c.finish-in-Ok-None.result _ refused_line c.args.buffer.now _ _ _ (inl (nothing refl, refl, refl))
    c.requires.buffer c.in_ok-push_text-in-Ok-None.ensures c.finish-in-Ok-None.ensures.written

pub returns-in_ok-push_text-in-Err-clause-told : goal.returns-in_ok-push_text-in-Err-clause-told
returns-in_ok-push_text-in-Err-clause-told g c =
    finishes c.finish-in-Err.result _ (opened_line (Err Walk)) c.args.buffer.now _ _ _
    (inr (inl (c.in-Err.ensures.memory, refl, refl))) c.requires.buffer c.in_ok-push_text-in-Err.ensures
    c.finish-in-Err.ensures.written
