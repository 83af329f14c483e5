use Rattle.std.proofs.Common.{◌≡◌, ◌<◌, ◌^◌, ◌++◌, All, None}
use Rattle.gix_chunk_core.specs.FirstFault.{first_below}
use Rattle.graph_chunks.specs.StoredDates.{date_fault}
use Rattle.graph_chunks.proofs.DecodingLemmas.{first_dates}
use Rattle.graph_chunks.proofs.dates.layer.decode_dates.Given as goal

abbrev pub invariant-loop-pos : goal.invariant-loop-pos
invariant-loop-pos l =
    (first_below (date_fault l.offsets l.overflow l.times) l.pos ≡ None)
    × (l.dates.items ≡ l.initial.dates.items ++ first_dates l.offsets l.overflow l.times l.pos)
    × (All (λ date. date < 2 ^ 63) l.initial.dates.items → All (λ date. date < 2 ^ 63) l.dates.items)
