use Rattle.unchecked_commands.proofs.OnlyAnswerLemmas.{known_only}
use Rattle.unchecked_commands.proofs.law.a_known_tree_has_one_answer.Goals as goal

pub returns : goal.returns
returns c = known_only
