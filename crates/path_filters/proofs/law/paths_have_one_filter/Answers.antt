use Rattle.path_filters.proofs.MadeLemmas.{one_filter}
use Rattle.path_filters.proofs.law.paths_have_one_filter.Goals as goal

pub returns : goal.returns
returns c = one_filter
