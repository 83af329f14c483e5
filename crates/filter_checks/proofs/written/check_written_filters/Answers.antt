use Rattle.std.proofs.Common.{◌≡◌, ◌∙◌, subst, inl, inr, arith}
use Rattle.std.proofs.lemmas.Bool.{cases_lt}
use Rattle.filter_checks.specs.Written.{IsWrittenAt}
use Rattle.filter_checks.proofs.written.check_written_filters.Goals as goal

pub returns-in-Err-clause-refused : goal.returns-in-Err-clause-refused
returns-in-Err-clause-refused g c = λ world w. record {
  within = omega (arith, c.loop-number-test.true, c.num_commits-number-end.ensures.commits, c.loop-number.auto.number-end);
  before = c.loop-number.invariant.written world (c.check_one.ensures.kept world w);
  computed = c.in-Err.ensures.computed;
  why = c.in-Err.ensures.refused world w;
}

pub loop-number-preserved : goal.loop-number-preserved
loop-number-preserved g c = record {
  kind = c.check_one.ensures.kind ∙ c.loop-number.invariant.kind;
  kept = λ world w. c.loop-number.invariant.kept world (c.check_one.ensures.kept world w);
  written = λ world w p below.
      elim (cases_lt p c.loop-number.number) [
        | inl before ↦ c.loop-number.invariant.written world (c.check_one.ensures.kept world w) p before
        | inr here ↦
            let e : c.loop-number.number ≡ p = omega arith in
            subst (IsWrittenAt c.args.settings world c.args.graph.now c.args.filters.now) e (c.in_default.ensures.written world w)
      ];
}

pub returns-clause-written : goal.returns-clause-written
returns-clause-written g c = λ world w p below.
    c.loop-number.invariant.written world w p
    (omega (arith, c.loop-number-test.false, c.num_commits-number-end.ensures.commits, c.loop-number.auto.number-end))
