use Rattle.graph_bases.proofs.law.no_merge_base_is_an_ancestor_of_another.Goals as goal

pub returns : goal.returns
returns c = λ history first others p q base other proper. other.best p base.common proper
