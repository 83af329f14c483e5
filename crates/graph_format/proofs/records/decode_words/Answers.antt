use Rattle.std.proofs.Common.{sym, ◌∙◌}
use Rattle.graph_format.proofs.DecodedRecordLemmas.{first_words-more}
use Rattle.graph_format.proofs.records.decode_words.Goals as goal

pub loop-index-preserved : goal.loop-index-preserved
loop-index-preserved c = rw (c.loop-index.invariant, c.word_at.ensures) at c.in_ok-push.ensures.items
    ∙ sym (first_words-more c.args.bytes.now c.loop-index.index)
