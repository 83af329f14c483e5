use Rattle.changed_paths.proofs.FiltersLemmas.{all_of_the_data}
use Rattle.changed_paths.proofs.law.filters_are_all_of_the_data.Goals as goal

pub returns : goal.returns
returns c = all_of_the_data
