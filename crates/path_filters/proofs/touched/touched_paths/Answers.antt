use Rattle.std.proofs.Common.{◌≡◌, ◌+◌, length, map, subst, sym, ap, ◌∙◌, arith, rules, Contains}
use Rattle.std.proofs.lemmas.List.{length-map}
use Rattle.path_filters.specs.Touched.{AreTouched}
use Rattle.path_filters.proofs.ListLemmas.{view_at}
use Rattle.path_filters.proofs.GatherLemmas.{one_more, all_gathered, more_gathered, keys_rise}
use Rattle.path_filters.proofs.touched.touched_paths.Goals as goal

pub returns-then-len-most : goal.returns-then-len-most
returns-then-len-most c =
    let changed = map (λ path. path.items) c.args.changed.now in
    let before = map (λ p. p.now) c.loop-path.touched.keys in
    let after = map (λ p. p.now) c.gather.new.touched.keys in
    let index = c.loop-path.path-index in
    more_gathered changed (index + 1) c.as_slice-path.result.now after c.args.most
    (one_more changed index c.loop-path.last.now c.as_slice-path.result.now before after
    (omega (arith, c.loop-path-test.true, length-map c.args.changed.now (λ path. path.items)))
    (c.as_slice-path.ensures.value
    ∙ view_at (λ path. path.items) c.args.changed.now index c.path-item.result c.loop-path-test.true c.path-item.is)
    c.loop-path.invariant.gathered c.in_ok-gather.ensures.0 c.in_ok-gather.ensures.1)
    (keys_rise (λ p. p.now) c.gather.new.touched.keys c.len.ensures.ordered)
    (omega (arith, c.if-len-most.true, c.len.ensures.len, length-map c.gather.new.touched.keys (λ p. p.now)))

pub loop-path-preserved : goal.loop-path-preserved
loop-path-preserved c =
    let changed = map (λ path. path.items) c.args.changed.now in
    let before = map (λ p. p.now) c.loop-path.touched.keys in
    let after = map (λ p. p.now) c.gather.new.touched.keys in
    let index = c.loop-path.path-index in
    record {
      gathered =
          one_more changed index c.loop-path.last.now c.as_slice-path.result.now before after
          (omega (arith, c.loop-path-test.true, length-map c.args.changed.now (λ path. path.items)))
          (c.as_slice-path.ensures.value
          ∙ view_at (λ path. path.items) c.args.changed.now index c.path-item.result c.loop-path-test.true c.path-item.is)
          c.loop-path.invariant.gathered c.in_ok-gather.ensures.0 c.in_ok-gather.ensures.1;
      few = omega (arith, c.if-len-most.false, c.len.ensures.len);
    }

pub returns : goal.returns
returns c =
    let changed = map (λ path. path.items) c.args.changed.now in
    let keys = c.loop-path.touched.keys in
    let items : c.in_ok-collect.field-0.items ≡ keys = search rules in
    let gathered = map (λ p. p.now) keys in (
      subst (λ t. AreTouched (Contains changed) (map (λ p. p.now) t)) (sym items)
          (all_gathered changed c.loop-path.path-index c.loop-path.last.now gathered
          (omega (arith, c.loop-path-test.false, length-map c.args.changed.now (λ path. path.items)))
          c.loop-path.invariant.gathered (keys_rise (λ p. p.now) keys c.into_iter.ensures.into_iter_gives.4)),
      omega (arith, ap length items, c.loop-path.invariant.few),
    )
