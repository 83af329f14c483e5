use Rattle.graph_format.proofs.DecodedRecordLemmas.{decoded-more}
use Rattle.graph_format.proofs.records.Records.push.Goals as goal

pub returns : goal.returns
unfolding Rattle.graph_format.specs.Format.record_of
returns c = λ records before.
    let size = c.len_in_bytes-fields.ensures in
    let word = c.generation_and_time-generation.ensures in
    decoded-more records _ _ _ before (rw word.generation at c.in_ok-push-2.ensures.items)
    (rw word.time at c.in_ok-push-3.ensures.items)
    (rw (c.word_at-first.ensures, c.word_at-second.ensures, size) at c.in_ok-push.ensures.items)
