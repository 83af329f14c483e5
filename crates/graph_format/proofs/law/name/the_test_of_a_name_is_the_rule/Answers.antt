use Rattle.graph_format.proofs.NameRuleLemmas.{is_named_right-iff}
use Rattle.graph_format.proofs.law.name.the_test_of_a_name_is_the_rule.Goals as goal

pub returns : goal.returns
returns c = is_named_right-iff
