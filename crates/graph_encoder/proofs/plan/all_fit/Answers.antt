use Rattle.std.proofs.Common.{◌≡◌, ◌<◌, ◌≤◌, ℕ, true, length, slice_get, refl, sym, ap, ◌∙◌, subst, ⊎_elim, arith}
use Rattle.std.proofs.lemmas.Bool.{cases_lt}
use Rattle.std.proofs.lemmas.Option.{same_Some, slice_get-get_or}
use Rattle.gix_hash_core.specs.declared.kind.Kind.{Kind}
use Rattle.graph_encoder.specs.Plan.{IsPlannedCommit}
use Rattle.graph_encoder.proofs.RowSteps.{row-here}
use Rattle.graph_encoder.proofs.plan.all_fit.Goals as goal

pub loop-place-init : goal.loop-place-init
loop-place-init g c = λ i commit lt at. absurd (omega (arith, lt))

pub returns-then-not-fits : goal.returns-then-not-fits
returns-then-not-fits g c =
    let plan = g.P.PlanView.as_plan c.args.plan.now in
    let i : ℕ = c.loop-place.place in
    let within : i < length plan.commits.items = omega arith in
    let here = row-here plan i c.row.result within c.row.ensures in (
      λ told. absurd (cc),
      λ all.
          let fits : IsPlannedCommit c.kind-kind.result here.0 =
          subst (λ (kind : Kind). IsPlannedCommit kind here.0) (sym c.kind-kind.ensures)
          (subst (IsPlannedCommit plan.kind) (sym here.1.is) (all i here.0 within)) in
          let yes_it_does : c.fits.result ≡ true = (c.fits.ensures here.0 here.1.says).1 fits in
          let no_it_does_not = c.if-not-fits.true in
          absurd (cc),
    )

pub loop-place-preserved : goal.loop-place-preserved
loop-place-preserved g c =
    let plan = g.P.PlanView.as_plan c.args.plan.now in
    let n : ℕ = c.loop-place.place in
    let within : n < length plan.commits.items = omega arith in
    let here = row-here plan n c.row.result within c.row.ensures in
    let fits : IsPlannedCommit plan.kind here.0 =
    subst (λ (kind : Kind). IsPlannedCommit kind here.0) c.kind-kind.ensures
    ((c.fits.ensures here.0 here.1.says).0 c.if-not-fits.false) in
    λ i commit lt at.
    ⊎_elim
    (λ (before : i < n). c.loop-place.invariant i commit before at)
    (λ (not_before : n ≤ i).
    let number : n ≡ i = omega arith in
    subst (IsPlannedCommit plan.kind)
    (same_Some here.0 commit (sym here.1.at ∙ ap (slice_get plan.commits.items) number ∙ at)) fits)
    (cases_lt i n)

pub returns : goal.returns
returns g c =
    let plan = g.P.PlanView.as_plan c.args.plan.now in (
      λ told k d lt. c.loop-place.invariant k _ (omega arith) (slice_get-get_or plan.commits.items k d lt),
      λ all. refl,
    )
