use Rattle.std.proofs.Common.{◌∙◌, sym, arith}
use Rattle.graph_layer.proofs.IdOrderLemmas.{rests-at_first, less-long, greater-long, equal-long, unequal-longs, equal-longs}
use Rattle.graph_layer.proofs.IdOrderLemmas.{last-longs, rests-below}
use Rattle.graph_layer.proofs.file.compare.compare_ids.Goals as goal

pub returns-then-first-second : goal.returns-then-first-second
returns-then-first-second c =
    sym (less-long _ _ 0 (omega (arith, c.requires.one))
    (rests-at_first (λ k. omega (arith, c.type_inv.one k)) (λ k. omega (arith, c.type_inv.other k)) c.requires.same)
    (omega (arith, c.long_at-first.ensures, c.long_at-second.ensures, c.if-first-second.true)))

pub returns-then-second-first : goal.returns-then-second-first
returns-then-second-first c =
    sym (greater-long _ _ 0 (omega (arith, c.requires.one))
    (rests-at_first (λ k. omega (arith, c.type_inv.one k)) (λ k. omega (arith, c.type_inv.other k)) c.requires.same)
    (omega (arith, c.long_at-first.ensures, c.long_at-second.ensures, c.if-second-first.true)))

pub loop-at-init : goal.loop-at-init
loop-at-init c = record {
  within = omega arith;
  decide = equal-long _ _ 0 (omega (arith, c.requires.one))
      (rests-at_first (λ k. omega (arith, c.type_inv.one k)) (λ k. omega (arith, c.type_inv.other k)) c.requires.same)
      (omega (
        arith,
        c.long_at-first.ensures,
        c.long_at-second.ensures,
        c.if-first-second.false,
        c.if-second-first.false,
      ));
}

pub returns-then-is_ne : goal.returns-then-is_ne
returns-then-is_ne c =
    unequal-longs c.loop-at.at _ _ _ (omega (arith, c.loop-at-test.true)) c.loop-at.invariant.decide c.long_at.ensures
    c.long_at-in-loop-at.ensures c.cmp-found.ensures (sym c.is_ne.ensures ∙ c.if-is_ne.true)

pub loop-at-preserved : goal.loop-at-preserved
loop-at-preserved c = record {
  within = omega arith;
  decide = equal-longs c.loop-at.at _ _ _ (omega (arith, c.loop-at-test.true)) c.loop-at.invariant.decide c.long_at.ensures
      c.long_at-in-loop-at.ensures c.cmp-found.ensures (sym c.is_ne.ensures ∙ c.if-is_ne.false);
}

pub returns : goal.returns
returns c =
    last-longs _ _ _ _ (omega (arith, c.requires.one))
    (rests-below _ c.loop-at.at (omega (arith, c.loop-at-test.false)) c.loop-at.invariant.decide) c.long_at-2.ensures
    c.long_at-3.ensures c.cmp.ensures
