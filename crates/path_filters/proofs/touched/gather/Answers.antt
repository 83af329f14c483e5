use Rattle.std.proofs.Common.{map, arith}
use Rattle.path_filters.proofs.GatherLemmas.{inserted, gathered_more, directories_more, gathered_whole}
use Rattle.path_filters.proofs.touched.gather.Goals as goal

pub loop-i-preserved : goal.loop-i-preserved
loop-i-preserved c =
    let step = inserted (λ p. p.now) c.loop-i.touched.keys c.insert.new.self.keys _ c.in_ok-insert.ensures.keys in
    let before = map (λ p. p.now) c.args.touched.now.keys in
    let mid = map (λ p. p.now) c.loop-i.touched.keys in
    let after = map (λ p. p.now) c.insert.new.self.keys in
    record {
      so_far =
          gathered_more c.args.path.now before mid after c.loop-i.i _ c.loop-i-test.true c.if-path-i-ne47.false (grind arith)
          c.loop-i.invariant.so_far step.0 step.1;
      directories =
          directories_more c.args.path.now c.common_length-common.result c.loop-i.i mid after _ (grind arith)
          c.loop-i.invariant.directories step.0 step.2;
    }

pub returns : goal.returns
returns c =
    let step = inserted (λ p. p.now) c.loop-i.touched.keys c.insert-2.new.self.keys _ c.in_ok-insert-2.ensures.keys in
    gathered_whole c.args.last.now c.args.path.now (map (λ p. p.now) c.args.touched.now.keys)
    (map (λ p. p.now) c.loop-i.touched.keys) (map (λ p. p.now) c.insert-2.new.self.keys) c.common_length-common.result
    c.common_length-common.ensures.alike c.common_length-common.ensures.in_a c.loop-i.invariant.so_far
    (λ d leads low high. c.loop-i.invariant.directories d leads low (omega arith)) step.0 step.1 step.2
