-- A lookup in a right graph is a scan.
use Rattle.graph_unchecked.proofs.RightAnswerLemmas.{comparison-right, told-right, walk-right}
use Rattle.graph_unchecked.proofs.law.answers_about_a_right_graph_are_exact.Goals as goal

pub returns-clause-told : goal.returns-clause-told
returns-clause-told c = λ tree path first second layers answer opens sound.
    told-right c.a_lookup_in_a_right_graph_is_a_scan.ensures layers sound tree path first second answer opens

pub returns-clause-walk : goal.returns-clause-walk
returns-clause-walk c = λ tree path first second layers answer opens sound.
    walk-right c.a_lookup_in_a_right_graph_is_a_scan.ensures layers sound tree path first second answer opens

pub returns-clause-compared : goal.returns-clause-compared
returns-clause-compared c = λ tree path ids layers answer opens sound dated.
    comparison-right c.a_lookup_in_a_right_graph_is_a_scan.ensures layers sound dated tree path ids answer opens
