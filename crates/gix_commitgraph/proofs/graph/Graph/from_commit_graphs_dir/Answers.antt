use Rattle.std.proofs.Common.{rules}
use Rattle.gix_commitgraph.proofs.graph.Graph.from_commit_graphs_dir.Goals as goal

pub returns-clause-from : goal.returns-clause-from
returns-clause-from g c = search rules
