-- The first word or the second spells no id.
use Rattle.std.proofs.Common.{[], ◌∷◌}
use Rattle.question_lines.proofs.QuestionLemmas.{no_first, others_spelled}
use Rattle.question_lines.proofs.question.read_two.Goals as goal

pub returns-in_err-first-clause-none : goal.returns-in_err-first-clause-none
returns-in_err-first-clause-none c = λ none first second all. no_first c.args.words c.in_err-first.ensures first (second ∷ []) all

pub returns-in_err-second-clause-none : goal.returns-in_err-second-clause-none
returns-in_err-second-clause-none c = λ none first second all.
    no_first c.next_id.new.words c.in_err-second.ensures second []
    (others_spelled c.args.words c.next_id.new.words c.in_ok-first.first first (second ∷ []) c.in_ok-first.ensures all)
