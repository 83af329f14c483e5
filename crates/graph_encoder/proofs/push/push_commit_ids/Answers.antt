use Rattle.std.proofs.Common.{◌<◌, ℕ, List, length, ap, sym, ◌∙◌, ◌++◌, append-nil, arith}
use Rattle.std.specs.List.{flat_map}
use Rattle.std.proofs.lemmas.List.{take_all}
use Rattle.std.proofs.lemmas.List.Folds.{flat_map-map}
use Rattle.graph_encoder.specs.declared.plan.PlanCommit.{PlanCommit}
use Rattle.graph_encoder.specs.Written.{ids_bytes}
use Rattle.graph_encoder.proofs.RowSteps.{row-here, flat-more}
use Rattle.graph_encoder.proofs.push.push_commit_ids.Goals as goal

pub loop-place-init : goal.loop-place-init
loop-place-init g c = sym (append-nil c.args.file.now.items)

pub loop-place-preserved : goal.loop-place-preserved
loop-place-preserved g c =
    let plan = g.P.PlanView.as_plan c.args.plan.now in
    let i : ℕ = c.loop-place.place in
    let within : i < length plan.commits.items = omega arith in
    let here = row-here plan i c.row.result within c.row.ensures in
    flat-more (λ (commit : PlanCommit). commit.id) c.args.file.now.items c.loop-place.file.items _ plan.commits.items i here.0
    within here.1.is c.loop-place.invariant
    (c.in_ok-push_id.ensures ∙ ap (λ (id : List ℕ). c.loop-place.file.items ++ id) here.1.says.id)

pub returns : goal.returns
unfolding ids_bytes
returns g c =
    let commits = (g.P.PlanView.as_plan c.args.plan.now).commits.items in
    c.loop-place.invariant
    ∙ ap (λ (cs : List PlanCommit). c.args.file.now.items ++ flat_map (λ commit. commit.id) cs)
    (take_all c.loop-place.place commits (omega arith))
    ∙ ap (λ (bytes : List ℕ). c.args.file.now.items ++ bytes) (sym (flat_map-map (λ id. id) (λ commit. commit.id) commits))
