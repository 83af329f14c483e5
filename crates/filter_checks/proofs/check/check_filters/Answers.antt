use Rattle.std.proofs.Common.{◌≡◌, ◌∙◌, subst, inl, inr, arith}
use Rattle.std.proofs.lemmas.Bool.{cases_lt}
use Rattle.filter_checks.specs.RightFilters.{IsRightAt}
use Rattle.filter_checks.proofs.check.check_filters.Goals as goal

pub returns-in-Err-clause-refused : goal.returns-in-Err-clause-refused
returns-in-Err-clause-refused g c = λ world w. record {
  within = omega (arith, c.loop-number-test.true, c.num_commits-number-end.ensures.commits, c.loop-number.auto.number-end);
  before = c.loop-number.invariant.right world (c.check_commit.ensures.kept world w);
  needed = c.in-Err.ensures.needed;
  why = c.in-Err.ensures.refused world w;
}

pub loop-number-preserved : goal.loop-number-preserved
loop-number-preserved g c = record {
  kind = c.check_commit.ensures.kind ∙ c.loop-number.invariant.kind;
  kept = λ world w. c.loop-number.invariant.kept world (c.check_commit.ensures.kept world w);
  right = λ world w p below.
      elim (cases_lt p c.loop-number.number) [
        | inl before ↦ c.loop-number.invariant.right world (c.check_commit.ensures.kept world w) p before
        | inr here ↦
            let e : c.loop-number.number ≡ p = omega arith in
            subst (IsRightAt world c.args.graph.now c.args.filters.now) e (c.in_default.ensures.right world w)
      ];
}

pub returns-clause-right : goal.returns-clause-right
returns-clause-right g c = λ world w p below.
    c.loop-number.invariant.right world w p
    (omega (arith, c.loop-number-test.false, c.num_commits-number-end.ensures.commits, c.loop-number.auto.number-end))
