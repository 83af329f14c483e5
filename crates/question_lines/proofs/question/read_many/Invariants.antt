-- The words so far spell the ids.
use Rattle.std.proofs.Common.{◌∷◌, length}
use Rattle.question_lines.proofs.QuestionLemmas.{AreRead}
use Rattle.question_lines.proofs.question.read_many.Given as goal

abbrev pub invariant-loop-id : goal.invariant-loop-id
invariant-loop-id l = AreRead l.fn.words l.words (l.first ∷ l.others.items)

abbrev pub decreases-loop-id : goal.decreases-loop-id
decreases-loop-id l = length l.words
