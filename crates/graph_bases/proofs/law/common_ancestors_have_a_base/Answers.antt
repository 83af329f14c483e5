use Rattle.graph_bases.proofs.BaseLemmas.{no_common_without_base}
use Rattle.graph_bases.proofs.law.common_ancestors_have_a_base.Goals as goal

pub returns : goal.returns
returns c = λ history first others counts uncapped none p common.
    no_common_without_base history first others uncapped
    (λ x y. c.generations_never_rise_along_walks.ensures history x y counts)
    (λ x y. c.generations_fall_along_walks.ensures history x y counts) none p common
