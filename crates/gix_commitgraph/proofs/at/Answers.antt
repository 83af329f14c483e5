use Rattle.std.proofs.Common.{rules}
use Rattle.gix_commitgraph.proofs.at.Goals as goal

pub returns-clause-memory : goal.returns-clause-memory
returns-clause-memory g c = search rules
