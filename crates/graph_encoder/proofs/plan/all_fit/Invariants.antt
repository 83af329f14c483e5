use Rattle.std.proofs.Common.{◌≡◌, ℕ, ◌<◌, Some, slice_get}
use Rattle.graph_encoder.specs.Plan.{IsPlannedCommit}
use Rattle.graph_encoder.specs.declared.plan.PlanCommit.{PlanCommit}
use Rattle.graph_encoder.proofs.plan.all_fit.Given as goal

-- the commits so far fit
abbrev pub invariant-loop-place : goal.invariant-loop-place
invariant-loop-place g l =
    let plan = g.P.PlanView.as_plan l.plan in
    (i : ℕ) (commit : PlanCommit) → i < l.place → slice_get plan.commits.items i ≡ Some commit
    → IsPlannedCommit plan.kind commit
