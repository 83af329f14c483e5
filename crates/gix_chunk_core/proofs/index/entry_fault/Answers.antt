-- The entry does not end the table, and an earlier one has its id.
use Rattle.std.proofs.Common.{◌≡◌, bytes_eq, false, rules}
use Rattle.gix_chunk_core.specs.Entry.{entry_at, end_id}
use Rattle.gix_chunk_core.specs.FirstBytes.{filled}
use Rattle.gix_chunk_core.specs.Fault.{entry_fault}
use Rattle.gix_chunk_core.proofs.index.entry_fault.Goals as goal

pub returns-then-has_earlier : goal.returns-then-has_earlier
unfolding entry_fault
returns-then-has_earlier c =
    let names_a_chunk : bytes_eq (entry_at (filled c.args.front.now c.args.len) c.args.at c.args.i).id end_id ≡ false =
    search rules in
    search (rules, names_a_chunk)
