use Rattle.path_filters.proofs.MadeLemmas.{clear_filter}
use Rattle.path_filters.proofs.law.the_filter_of_no_path_is_one_clear_byte.Goals as goal

pub returns : goal.returns
returns c = clear_filter
