use Rattle.tree_changes.specs.Changes.{IsChangedText}
use Rattle.path_filters.proofs.OneListLemmas.{one_written}
use Rattle.path_filters.proofs.law.git_writes_one_filter.Goals as goal

pub returns : goal.returns
returns c = λ settings world old new. one_written settings (IsChangedText world old new)
