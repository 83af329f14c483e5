-- The first word spells no id.
use Rattle.std.proofs.Common.{[]}
use Rattle.question_lines.proofs.QuestionLemmas.{no_first}
use Rattle.question_lines.proofs.question.read_one.Goals as goal

pub returns-in_err-id-clause-none : goal.returns-in_err-id-clause-none
returns-in_err-id-clause-none c = λ none id all. no_first c.args.words c.in_err-id.ensures id [] all
