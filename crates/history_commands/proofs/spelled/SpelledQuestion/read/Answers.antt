-- The texts are those of the question.
use Rattle.std.proofs.Common.{◌≡◌}
use Rattle.history_commands.proofs.spelled.SpelledQuestion.read.Goals as goal

pub returns-in-Err-clause-refused : goal.returns-in-Err-clause-refused
returns-in-Err-clause-refused c = rw c.in-IsAncestor.is c.in-Err.ensures.refused

pub returns-in-Err-read_two-clause-refused : goal.returns-in-Err-read_two-clause-refused
returns-in-Err-read_two-clause-refused c = rw c.in-Walk.is c.in-Err-read_two.ensures.refused
