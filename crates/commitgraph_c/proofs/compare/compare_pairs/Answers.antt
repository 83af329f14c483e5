use Rattle.std.proofs.Common.{◌^◌, ◌<◌, ◌∙◌, drop, length, subst, arith, rules, List, ℕ}
use Rattle.commitgraph_c.specs.QueryAnswers.{TellsComparison}
use Rattle.commitgraph_c.proofs.BlockRoom.{rest_of}
use Rattle.commitgraph_c.proofs.TwoRoom.{next_compared}
use Rattle.commitgraph_c.proofs.compare.compare_pairs.Goals as goal

pub loop-place-preserved : goal.loop-place-preserved
loop-place-preserved c =
    let used = c.min-used.result in let now = c.loop-place.out in let part = c.tell-answer.new.out in
    let few : length c.args.out.now < 2 ^ 64 = search rules in
    let tells : TellsComparison c.in-Ok.comparison c.tell-answer.result (drop used now) part =
    subst (λ (xs : List ℕ). TellsComparison c.in-Ok.comparison c.tell-answer.result xs part) (rest_of used now)
    c.tell-answer.ensures.tells in
    record {
      graph = c.in-Ok.ensures.graph ∙ c.loop-place.invariant.graph;
      told =
          next_compared c.args.graph.now.layers c.args.pairs.now c.loop-place.place _ c.loop-place.length
          c.saturating_add-length.result used c.args.answers.now c.loop-place.answers c.args.out.now now part c.in-Ok.comparison
          c.tell-answer.result (omega arith) (omega arith) (rw c.loop-place.invariant.graph at c.in-Ok.ensures.exact)
          c.tell-answer.ensures.code tells c.min-used.ensures c.saturating_add-length.ensures few c.loop-place.invariant.told;
    }
