use Rattle.std.proofs.Common.{◌≡◌, None}
use Rattle.gix_chunk_core.specs.FirstFault.{first_below}
use Rattle.graph_writer.specs.Known.{ids_below}
use Rattle.graph_writer.specs.WriteRefusal.{parent_at}
use Rattle.graph_writer.proofs.resolve.Known.first_unknown.Given as goal

-- the parents of the commits before this one are known
abbrev pub invariant-loop-earlier : goal.invariant-loop-earlier
invariant-loop-earlier g l = first_below (parent_at (ids_below l.self) l.self.commits.now) l.earlier ≡ None
