use Rattle.std.proofs.Common.{◌≡◌, None}
use Rattle.gix_chunk_core.specs.FirstFault.{first_below}
use Rattle.gix_commitgraph.specs.GraphRefusal.{mismatch_after}
use Rattle.gix_commitgraph.proofs.init.check_kinds.Given as goal

-- no layer so far is of another kind than the one before it
abbrev pub invariant-loop-below : goal.invariant-loop-below
invariant-loop-below l = first_below (mismatch_after l.files) l.below ≡ None
