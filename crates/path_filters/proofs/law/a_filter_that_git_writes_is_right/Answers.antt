use Rattle.path_filters.proofs.MadeLemmas.{written_is_right}
use Rattle.path_filters.proofs.law.a_filter_that_git_writes_is_right.Goals as goal

pub returns : goal.returns
returns c = written_is_right
