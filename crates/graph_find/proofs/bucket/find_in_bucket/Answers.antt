-- The id is compared with the one in the middle.
use Rattle.std.proofs.Common.{ℕ, ◌+◌, ◌-◌, ◌/◌, ◌^◌, ◌<◌, ◌≤◌, sym, arith}
use Rattle.graph_format.proofs.DigitLemmas.{digits-enough, digits-lower}
use Rattle.graph_format.specs.Lookup.{digits}
use Rattle.graph_layer.proofs.LookupLemmas.{stands_within-lower, stands_within-upper, found-equal, found-none}
use Rattle.graph_find.proofs.bucket.find_in_bucket.Goals as goal

-- one comparison, after which at most half is left
halved : (comparisons left fewer most : ℕ) → 0 < left → fewer ≤ left / 2 → comparisons + digits left ≤ most
    → comparisons + 1 + digits fewer ≤ most
halved comparisons left fewer most some half h = omega (arith, digits-lower left fewer some half)

pub overflow_add-comparisons : goal.overflow_add-comparisons
overflow_add-comparisons c =
    let size = c.args.span.end - c.args.span.start in
    let small : size < 2 ^ 32 = omega arith in
    omega (
      arith,
      c.loop-low.invariant.counted,
      digits-lower (c.loop-low.high - c.loop-low.low) 0 (omega arith) (omega arith),
      digits-enough size 32 small,
    )

pub loop-low-preserved-in-Less : goal.loop-low-preserved-in-Less
loop-low-preserved-in-Less c = record {
  stands = λ layer bucket.
      stands_within-lower layer _ _ _ _ _ (c.loop-low.invariant.stands layer bucket)
      (bucket.each _ (omega arith) (omega arith)) (sym c.in-Less.ensures);
  order = omega arith;
  from = omega arith;
  within = omega arith;
  counted = halved _ _ _ _ (omega arith) (omega arith) c.loop-low.invariant.counted;
}

pub returns-in-Equal-clause-found : goal.returns-in-Equal-clause-found
returns-in-Equal-clause-found c = λ layer bucket.
    found-equal layer _ _ _ (bucket.each _ (omega arith) (omega arith)) (sym c.in-Equal.ensures)

pub returns-in-Equal-clause-most : goal.returns-in-Equal-clause-most
returns-in-Equal-clause-most c =
    omega (
      arith,
      c.loop-low.invariant.counted,
      digits-lower (c.loop-low.high - c.loop-low.low) 0 (omega arith) (omega arith),
    )

pub loop-low-preserved : goal.loop-low-preserved
loop-low-preserved c = record {
  stands = λ layer bucket.
      stands_within-upper layer _ _ _ _ _ (c.loop-low.invariant.stands layer bucket)
      (bucket.each _ (omega arith) (omega arith)) (sym c.in-Greater.ensures);
  order = omega arith;
  from = omega arith;
  within = omega arith;
  counted = halved _ _ _ _ (omega arith) (omega arith) c.loop-low.invariant.counted;
}

pub returns-clause-found : goal.returns-clause-found
returns-clause-found c = λ layer bucket.
    found-none layer _ _ _ (c.loop-low.invariant.stands layer bucket) (omega arith)
