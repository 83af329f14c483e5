use Rattle.std.proofs.Common.{◌≡◌, None}
use Rattle.gix_chunk_core.specs.FirstFault.{first_below}
use Rattle.gix_chunk_core.specs.FirstBytes.{filled}
use Rattle.gix_chunk_core.specs.Fault.{entry_fault}
use Rattle.gix_chunk_core.proofs.index.table_fault.Given as goal

-- no entry so far has a fault
abbrev pub invariant-loop-i : goal.invariant-loop-i
invariant-loop-i l = first_below (entry_fault (filled l.front l.len) l.at) l.i ≡ None
