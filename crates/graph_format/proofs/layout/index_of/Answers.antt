use Rattle.std.proofs.Common.{◌≡◌, slice_index, refl, arith}
use Rattle.gix_chunk_core.specs.FirstBytes.{filled}
use Rattle.gix_chunk_core.proofs.HeadLemmas.{filled-index}
use Rattle.gix_chunk_core.proofs.AlikeLemmas.{filled-begins}
use Rattle.graph_format.proofs.layout.index_of.Goals as goal

pub returns-in-Ok : goal.returns-in-Ok
returns-in-Ok c =
    let front = c.args.front.now in
    let len = c.args.len in
    let begins = filled-begins front len c.requires.len in
    let count : slice_index (filled front len) 6 ≡ slice_index front 6 = filled-index front len 6 (omega arith) in
    record {
      table = rw count (c.in-Ok.ensures.table (filled front len) begins);
      refusal = rw (count, c.in-Ok.ensures.none (filled front len) begins) refl;
    }

pub returns-in-Err-clause-refusal : goal.returns-in-Err-clause-refusal
returns-in-Err-clause-refusal c =
    let front = c.args.front.now in
    let len = c.args.len in
    let count : slice_index (filled front len) 6 ≡ slice_index front 6 = filled-index front len 6 (omega arith) in
    rw (count, c.in-Err.ensures.fault (filled front len) (filled-begins front len c.requires.len)) refl
