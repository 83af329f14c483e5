use Rattle.std.proofs.Common.{◌≡◌, true, bytes_eq}
use Rattle.gix_chunk_core.specs.FirstBytes.{filled}
use Rattle.gix_chunk_core.specs.Entry.{entry_at}
use Rattle.gix_chunk_core.proofs.FaultLemmas.{same-bytes}
use Rattle.gix_chunk_core.proofs.RangeLemmas.{range_of-at}
use Rattle.gix_chunk_core.proofs.TableLemmas.{range_of-in_order}
use Rattle.gix_chunk_core.proofs.index.Index.range_by_id.Goals as goal

pub returns-then-eq-clause-place : goal.returns-then-eq-clause-place
returns-then-eq-clause-place c =
    let entry = entry_at (filled c.self.inside.front.now c.self.inside.len) c.self.inside.at c.loop-i.i in
    let same : bytes_eq entry.id c.args.id ≡ true = cc in
    let found = range_of-at _ _ _ _ _ c.loop-i.invariant (same-bytes _ _ same) c.loop-i-test.true in
    rw (← c.self.view_is) (cc)

pub returns-then-eq-clause-in_order : goal.returns-then-eq-clause-in_order
returns-then-eq-clause-in_order c =
    let entry = entry_at (filled c.self.inside.front.now c.self.inside.len) c.self.inside.at c.loop-i.i in
    let same : bytes_eq entry.id c.args.id ≡ true = cc in
    let found = range_of-at _ _ _ _ _ c.loop-i.invariant (same-bytes _ _ same) c.loop-i-test.true in
    rw (← c.self.view_is, c.entry_at-entry.ensures.offset, c.entry_at-next.ensures.offset)
    (range_of-in_order _ _ _ _ _ _ _ c.self.invariant.chunks found)
