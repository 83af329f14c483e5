use Rattle.gix_commitgraph.proofs.opening.chain.has_chain.Goals as goal

-- the path that was asked for is the one that was joined
pub returns-clause-answer : goal.returns-clause-answer
returns-clause-answer g c = λ tree is. rw (← c.in_ok-chain.ensures, ← c.as_str.ensures.value) (c.is_file.ensures.answer tree is)
