-- The table is that of each file which begins with the head.
use Rattle.std.proofs.Common.{◌≡◌, ◌<◌, List, ℕ, length, slice_index, sym, ◌∙◌, arith}
use Rattle.std.proofs.lemmas.Grind.{get_or_default_zero}
use Rattle.gix_chunk_core.specs.FirstBytes.{filled}
use Rattle.graph_format.specs.ChunkRanges.{IsChunkAt}
use Rattle.graph_format.specs.Head.{BeginsWith}
use Rattle.graph_find.proofs.HeadLemmas.{begins-filled}
use Rattle.graph_parts.proofs.OffsetLemmas.{chunk-at}
use Rattle.graph_parts.proofs.offsets.chunk_in.Goals as goal
use Rattle.graph_parts.proofs.offsets.chunk_in.Goals.{In-Some}

found : (c : In-Some) (file : List ℕ) → BeginsWith file c.args.head.now.front.items c.args.head.now.len
    → IsChunkAt file c.args.id (record { start = c.in-Some.range.start; end = c.in-Some.range.end })
found c file begins =
    let front = c.args.head.now.front.items in
    let long : 6 < length front = omega (arith, c.len.ensures, c.if-len-le-CHUNK_COUNT_AT.false, c.args.head.now.front.ok) in
    let count : c.from-count.result ≡ slice_index front 6 =
    c.from-count.ensures ∙ c.index.ensures ∙ get_or_default_zero front 6 c.index.result.now long in
    let starts : BeginsWith file c.deref.result.now c.args.head.now.len = rw c.deref.ensures.value begins in
    chunk-at file front c.args.head.now.len c.from-count.result c.in-Ok.index c.args.id c.in-Some.range.start
    c.in-Some.range.end begins count long (c.in-Ok.ensures.table file starts) (sym c.in-Some.ensures.place)

pub returns-in-Some-clause-place : goal.returns-in-Some-clause-place
returns-in-Some-clause-place c = found (goal.at.returns-in-Some-clause-place c).In-Some

pub returns-in-Some-clause-order : goal.returns-in-Some-clause-order
returns-in-Some-clause-order c =
    let head = c.args.head.now in
    let begins = begins-filled head.front.items head.len c.requires.fits in
    let at = found (goal.at.returns-in-Some-clause-order c).In-Some (filled head.front.items head.len) begins in
    (at.order, omega (arith, at.in_file, begins.size))
