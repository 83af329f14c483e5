use Rattle.std.proofs.Common.{◌≡◌, None}
use Rattle.gix_chunk_core.specs.FirstFault.{first_below}
use Rattle.gix_commitgraph.specs.Verify.{base_refusal}
use Rattle.gix_commitgraph.proofs.graph.Graph.check_bases.Given as goal

-- each base id so far is the checksum of its layer
abbrev pub invariant-loop-index : goal.invariant-loop-index
invariant-loop-index g l = first_below (base_refusal {E = g.row.E.Denot} l.self l.span.layer l.span.file.now) l.index ≡ None
