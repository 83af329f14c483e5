use Rattle.std.proofs.Common.{◌≡◌, None}
use Rattle.gix_chunk_core.specs.FirstFault.{first_below}
use Rattle.graph_chunks.specs.StoredDates.{date_fault}
use Rattle.graph_chunks.proofs.dates.layer.refusal_of.Given as goal

abbrev pub invariant-loop-pos : goal.invariant-loop-pos
invariant-loop-pos l = first_below (date_fault l.offsets l.overflow l.times) l.pos ≡ None
