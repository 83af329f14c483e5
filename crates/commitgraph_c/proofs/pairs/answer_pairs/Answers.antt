use Rattle.std.proofs.Common.{◌<◌, ◌∙◌, length, sym, arith}
use Rattle.std.proofs.lemmas.Option.{get_or_from_slice_get, slice_get-get_or}
use Rattle.commitgraph_c.specs.Many.{AnswersPair}
use Rattle.commitgraph_c.proofs.ManyRoom.{next_answered}
use Rattle.commitgraph_c.proofs.pairs.answer_pairs.Goals as goal

pub loop-place-preserved : goal.loop-place-preserved
loop-place-preserved c =
    let pairs = c.args.pairs.now in
    let place = c.loop-place.place in
    let lt : place < length pairs = omega arith in
    let read = sym (get_or_from_slice_get pairs place _ _ (slice_get-get_or pairs place _ lt)) in
    record {
      graph = c.in-Ok.ensures.graph ∙ c.loop-place.invariant.graph;
      answers =
          next_answered (AnswersPair c.args.graph.now.layers) pairs c.args.out.now c.loop-place.out place _ c.in-Ok.answer lt read
          (omega arith) (rw c.loop-place.invariant.graph at c.in-Ok.ensures.answer) c.loop-place.invariant.answers;
    }
