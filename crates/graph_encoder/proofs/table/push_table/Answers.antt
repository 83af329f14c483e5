use Rattle.std.proofs.Common.{◌+◌, ◌∙◌, refl, ap, drop, get_or, arith}
use Rattle.graph_encoder.specs.Sizes.{bytes_in, total_size}
use Rattle.graph_encoder.proofs.SizeLemmas.{no_chunk, total-step, table-step}
use Rattle.graph_encoder.proofs.table.push_table.Goals as goal

pub push_entry-requires : goal.push_entry-requires
push_entry-requires c =
    omega (
      arith,
      total-step c.args.chunks.now c.loop-chunk.chunk-index c.loop-chunk.offset
          (bytes_in (get_or c.args.chunks.now c.loop-chunk.chunk-index no_chunk)) (c.args.first + total_size c.args.chunks.now)
          c.loop-chunk-test.true refl c.loop-chunk.invariant.bytes,
      c.requires,
    )

pub loop-chunk-preserved : goal.loop-chunk-preserved
loop-chunk-preserved c =
    record {
      table =
          table-step c.args.chunks.now c.loop-chunk.chunk-index c.loop-chunk.offset c.in_ok-offset.offset
          c.loop-chunk.file.items _ _ c.loop-chunk-test.true c.in_ok-offset.ensures.entry c.in_ok-offset.ensures.next
          c.loop-chunk.invariant.table;
      bytes = ap (λ n. n + total_size (drop (c.loop-chunk.chunk-index + 1) c.args.chunks.now)) c.in_ok-offset.ensures.next
          ∙ total-step c.args.chunks.now c.loop-chunk.chunk-index c.loop-chunk.offset
          (bytes_in (get_or c.args.chunks.now c.loop-chunk.chunk-index no_chunk)) (c.args.first + total_size c.args.chunks.now)
          c.loop-chunk-test.true refl c.loop-chunk.invariant.bytes;
    }
