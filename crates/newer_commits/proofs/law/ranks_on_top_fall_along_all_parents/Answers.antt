use Rattle.newer_commits.proofs.RankLemmas.{falls_on_top}
use Rattle.newer_commits.proofs.law.ranks_on_top_fall_along_all_parents.Goals as goal

pub returns : goal.returns
returns c = falls_on_top
