use Rattle.commit_search.proofs.RankLemmas.{generations_along}
use Rattle.commit_search.proofs.law.generation_numbers_fall_along_parents.Goals as goal

pub returns : goal.returns
returns c = λ history counts.
    generations_along history counts (λ x y. c.generations_never_rise_along_walks.ensures history x y counts)
    (λ x y. c.generations_fall_along_walks.ensures history x y counts)
