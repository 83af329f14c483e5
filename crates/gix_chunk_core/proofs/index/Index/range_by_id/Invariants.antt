use Rattle.std.proofs.Common.{◌≢◌, ℕ, ◌<◌}
use Rattle.gix_chunk_core.specs.FirstBytes.{filled}
use Rattle.gix_chunk_core.specs.Entry.{entry_at}
use Rattle.gix_chunk_core.proofs.index.Index.range_by_id.Given as goal

-- no chunk so far has the id
abbrev pub invariant-loop-i : goal.invariant-loop-i
invariant-loop-i l = (k : ℕ) → k < l.i
    → (entry_at (filled l.self-inside.front.now l.self-inside.len) l.self-inside.at k).id ≢ l.id
