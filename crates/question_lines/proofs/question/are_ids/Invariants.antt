-- The words so far spell ids.
use Rattle.std.proofs.Common.{ℕ, List, length}
use Rattle.question_lines.proofs.QuestionLemmas.{AreRead}
use Rattle.question_lines.proofs.question.are_ids.Given as goal

abbrev pub invariant-loop-word : goal.invariant-loop-word
invariant-loop-word l = (ids : List (List ℕ)) × AreRead l.fn.words l.words ids

abbrev pub decreases-loop-word : goal.decreases-loop-word
decreases-loop-word l = length l.words
