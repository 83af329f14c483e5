use Rattle.gix_commitgraph.proofs.opening.chain.read_chain.Goals as goal

-- the path that was read is the one that was joined
pub returns-clause-opens : goal.returns-clause-opens
returns-clause-opens g c = λ tree is. rw (← c.in_ok-chain.ensures, ← c.as_str.ensures.value) (c.read_file.ensures.opens tree is)

pub returns-clause-given : goal.returns-clause-given
returns-clause-given g c = rw (← c.in_ok-chain.ensures, ← c.as_str.ensures.value) c.read_file.ensures.given
