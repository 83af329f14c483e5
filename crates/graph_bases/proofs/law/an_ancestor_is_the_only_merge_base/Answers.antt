use Rattle.graph_bases.proofs.BaseLawLemmas.{only_base}
use Rattle.graph_bases.proofs.law.an_ancestor_is_the_only_merge_base.Goals as goal

pub returns : goal.returns
returns c = λ history first other p counts below reaches.
    only_base history first other below reaches
    (λ x y. c.generations_never_rise_along_walks.ensures history x y counts)
    (λ x y. c.generations_fall_along_walks.ensures history x y counts) p
