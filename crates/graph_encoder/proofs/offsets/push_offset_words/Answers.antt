use Rattle.std.proofs.Common.{◌≡◌, ◌+◌, ◌++◌, ◌∙◌, sym, ap, length, take, cond, arith, get_or}
use Rattle.std.proofs.lemmas.List.{take_all}
use Rattle.graph_encoder.specs.Chunks.{word_bytes}
use Rattle.graph_encoder.specs.DateOffsets.{is_large, large_offsets, offset_words}
use Rattle.graph_encoder.specs.ExtraEdges.{top_bit}
use Rattle.graph_encoder.specs.Written.{words_bytes}
use Rattle.graph_encoder.proofs.OffsetLemmas.{large_before-few, length-offset_words, offset_words-at}
use Rattle.graph_encoder.proofs.Pushes.{words_bytes-nil, words_bytes-more}
use Rattle.graph_encoder.proofs.SizeLemmas.{large-counted}
use Rattle.graph_encoder.proofs.offsets.push_offset_words.Goals as goal

-- one more offset is counted, if it is large
more : (c : goal.After-from-index)
    → c.loop-offset.index + c.from-index.result
    ≡ length (large_offsets (take (c.loop-offset.offset-index + 1) c.args.offsets.now))
more c =
    large-counted c.args.offsets.now c.loop-offset.offset-index c.loop-offset.index c.from-index.result c.is_large.result
    c.loop-offset-test.true c.loop-offset.invariant.large c.is_large.ensures c.from-index.ensures

pub loop-offset-init : goal.loop-offset-init
loop-offset-init c = record { words = words_bytes-nil c.args.file.now.items; large = omega arith }

pub word_of-requires : goal.word_of-requires
word_of-requires c =
    omega (
      arith,
      c.loop-offset.invariant.large,
      large_before-few c.args.offsets.now c.loop-offset.offset-index (omega arith),
      c.requires,
    )

pub overflow_add-index : goal.overflow_add-index
overflow_add-index c =
    omega (arith, more c, large_before-few c.args.offsets.now (c.loop-offset.offset-index + 1) (omega arith), c.requires)

pub loop-offset-preserved : goal.loop-offset-preserved
loop-offset-preserved c =
    let word : c.word_of.result ≡ get_or (offset_words c.args.offsets.now) c.loop-offset.offset-index 0 = c.word_of.ensures
    ∙ ap (λ n. cond (is_large (get_or c.args.offsets.now c.loop-offset.offset-index 0)) (top_bit + n)
    (get_or c.args.offsets.now c.loop-offset.offset-index 0)) c.loop-offset.invariant.large
    ∙ sym (offset_words-at c.args.offsets.now c.loop-offset.offset-index c.loop-offset-test.true) in
    record {
      words =
          words_bytes-more c.args.file.now.items _ _ (offset_words c.args.offsets.now) c.loop-offset.offset-index 0
          c.loop-offset.invariant.words
          (c.in_ok-push_word.ensures ∙ ap (λ n. c.loop-offset.file.items ++ word_bytes n) word)
          (omega (arith, length-offset_words c.args.offsets.now));
      large = more c;
    }

pub returns : goal.returns
returns c = c.loop-offset.invariant.words
    ∙ ap (λ words. c.args.file.now.items ++ words_bytes words)
    (take_all c.loop-offset.offset-index (offset_words c.args.offsets.now)
    (omega (arith, length-offset_words c.args.offsets.now, c.loop-offset-test.false)))
