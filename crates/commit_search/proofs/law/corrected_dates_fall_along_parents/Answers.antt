use Rattle.commit_search.proofs.RankLemmas.{dates_along}
use Rattle.commit_search.proofs.law.corrected_dates_fall_along_parents.Goals as goal

pub returns : goal.returns
returns c = λ history times dates right.
    dates_along history dates
    (λ x y. c.right_dates_fall_along_walks.ensures history times dates x y right)
