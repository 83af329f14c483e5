use Rattle.std.proofs.Common.{sym}
use Rattle.graph_bases.proofs.any.CoatComparer.compare_by.Goals as goal

pub compared-requires-clause-idle : goal.compared-requires-clause-idle
compared-requires-clause-idle g c = rw (sym c.num_commits.ensures.count) c.in_ok-coats.ensures
