use Rattle.std.proofs.Common.{◌≡◌, ◌+◌, Some, length, slice_get, refl, sym, arith}
use Rattle.std.proofs.lemmas.Option.{slice_get_read}
use Rattle.gix_commitgraph.proofs.layers.LayerListLemmas.{start-none, start-more, start-fits}
use Rattle.gix_commitgraph.proofs.layers.LayerStartLemmas.{starts-none, starts-more}
use Rattle.gix_commitgraph.proofs.init.starts_of.Goals as goal

pub loop-file-init : goal.loop-file-init
loop-file-init c = record {
  starts = rw c.in_ok-starts.ensures.items (starts-none c.args.files.now);
  next = sym (start-none c.args.files.now);
}

pub overflow_add-start : goal.overflow_add-start
overflow_add-start c =
    let files = c.args.files.now in
    let at = c.loop-file.file-index in
    let here : slice_get files at ≡ Some c.file-item.result =
    slice_get_read files (length files) at c.file-item.result refl (omega arith) c.file-item.is in
    omega (
      arith,
      c.requires,
      c.loop-file.invariant.next,
      c.num_commits-start.ensures.ids,
      start-more files at c.file-item.result here,
      start-fits files (at + 1),
    )

pub loop-file-preserved : goal.loop-file-preserved
loop-file-preserved c =
    let files = c.args.files.now in
    let at = c.loop-file.file-index in
    let here : slice_get files at ≡ Some c.file-item.result =
    slice_get_read files (length files) at c.file-item.result refl (omega arith) c.file-item.is in
    record {
      starts = starts-more files at c.loop-file.start c.loop-file.starts.items _ c.loop-file.invariant.starts
          c.loop-file.invariant.next c.in_ok-push.ensures.items;
      next = omega (
        arith,
        c.loop-file.invariant.next,
        c.num_commits-start.ensures.ids,
        start-more files at c.file-item.result here,
      );
    }
