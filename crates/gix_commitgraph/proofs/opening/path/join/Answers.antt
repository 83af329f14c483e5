use Rattle.std.proofs.Common.{rules}
use Rattle.gix_commitgraph.proofs.opening.path.join.Goals as goal

pub returns : goal.returns
returns c = search rules
