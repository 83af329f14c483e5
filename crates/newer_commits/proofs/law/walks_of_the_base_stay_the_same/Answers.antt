use Rattle.newer_commits.proofs.HistoryLemmas.{parent_below, parent_joined, walk_below}
use Rattle.newer_commits.proofs.law.walks_of_the_base_stay_the_same.Goals as goal

pub returns-clause-parents : goal.returns-clause-parents
returns-clause-parents c = λ base newer p q below.
    (parent_below base newer p below q, parent_joined base newer p below q)

pub returns-clause-walks : goal.returns-clause-walks
returns-clause-walks c = walk_below
