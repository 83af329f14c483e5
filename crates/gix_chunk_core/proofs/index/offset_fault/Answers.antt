-- The entry's offset lies in the bytes, and is less than that of the entry before.
use Rattle.std.proofs.Common.{◌<◌, ◌≤◌, ◌-◌, length, refl, arith}
use Rattle.std.proofs.lemmas.Bool.{le-ltb, lt-ltb}
use Rattle.gix_chunk_core.specs.Entry.{entry_at}
use Rattle.gix_chunk_core.specs.FirstBytes.{filled}
use Rattle.gix_chunk_core.specs.Fault.{offset_fault}
use Rattle.gix_chunk_core.proofs.HeadLemmas.{filled-len}
use Rattle.gix_chunk_core.proofs.index.offset_fault.Goals as goal

pub returns-then-offset-entry_at : goal.returns-then-offset-entry_at
unfolding offset_fault
returns-then-offset-entry_at c =
    let own = (entry_at (filled c.args.front.now c.args.len) c.args.at c.args.i).offset in
    let before = (entry_at (filled c.args.front.now c.args.len) c.args.at (c.args.i - 1)).offset in
    let within : own ≤ length (filled c.args.front.now c.args.len) =
    omega (arith, c.requires.same, filled-len c.args.front.now c.args.len c.requires.len) in
    let falls : own < before = omega (arith, c.requires.same, c.entry_at.ensures.offset) in
    rw (le-ltb _ _ within, lt-ltb _ _ c.if-i-gt0.true, lt-ltb _ _ falls) refl
