use Rattle.std.proofs.Common.{◌≡◌, None}
use Rattle.gix_chunk_core.specs.FirstFault.{first_below}
use Rattle.graph_writer.specs.WriteRefusal.{own_refusal_at}
use Rattle.graph_writer.proofs.check.check_each.Given as goal

abbrev pub invariant-loop-number : goal.invariant-loop-number
invariant-loop-number g l = first_below (own_refusal_at l.kind l.commits) l.number ≡ None
