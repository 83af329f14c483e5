use Rattle.newer_commits.proofs.HistoryLemmas.{joined_counts}
use Rattle.newer_commits.proofs.law.right_numbers_stay_right.Goals as goal

pub returns : goal.returns
returns c = joined_counts
