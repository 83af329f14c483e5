use Rattle.std.proofs.Common.{rules}
use Rattle.gix_commitgraph.proofs.graph.Graph.iter_commits.Goals as goal

pub returns : goal.returns
returns c = search rules
