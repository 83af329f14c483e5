use Rattle.std.proofs.Common.{◌<◌, ℕ, List, All, length, ap, sym, subst, ◌∙◌, ◌++◌, append-nil, arith}
use Rattle.std.specs.List.{flat_map}
use Rattle.std.proofs.lemmas.List.{take_all}
use Rattle.graph_encoder.specs.ExtraEdges.{extra_words, no_parent}
use Rattle.graph_encoder.specs.Written.{words_bytes}
use Rattle.graph_encoder.specs.declared.plan.PlanCommit.{PlanCommit}
use Rattle.graph_encoder.proofs.Pushes.{words_bytes-all}
use Rattle.graph_encoder.proofs.RowSteps.{row-here, planned-here, flat-more}
use Rattle.graph_encoder.proofs.edges.push_edges.Goals as goal

pub loop-place-init : goal.loop-place-init
loop-place-init g c = sym (append-nil c.args.file.now.items)

pub push_extra_words-requires : goal.push_extra_words-requires
push_extra_words-requires g c =
    let plan = g.P.PlanView.as_plan c.args.plan.now in
    let within : c.loop-place.place < length plan.commits.items = omega arith in
    let here = row-here plan c.loop-place.place c.row.result within c.row.ensures in
    subst (All (λ (parent : ℕ). parent < no_parent)) (sym here.1.says.parents)
    (planned-here plan c.loop-place.place c.row.result here.0 c.requires here.1).parents

pub loop-place-preserved : goal.loop-place-preserved
loop-place-preserved g c =
    let plan = g.P.PlanView.as_plan c.args.plan.now in
    let i : ℕ = c.loop-place.place in
    let within : i < length plan.commits.items = omega arith in
    let here = row-here plan i c.row.result within c.row.ensures in
    flat-more (λ (commit : PlanCommit). words_bytes (extra_words commit.parents.items)) c.args.file.now.items
    c.loop-place.file.items _ plan.commits.items i here.0 within here.1.is c.loop-place.invariant
    (c.in_ok-push_extra_words.ensures
    ∙ ap (λ (parents : List ℕ). c.loop-place.file.items ++ words_bytes (extra_words parents)) here.1.says.parents)

pub returns : goal.returns
returns g c =
    let commits = (g.P.PlanView.as_plan c.args.plan.now).commits.items in
    c.loop-place.invariant
    ∙ ap
    (λ (cs : List PlanCommit). c.args.file.now.items ++ flat_map (λ commit. words_bytes (extra_words commit.parents.items)) cs)
    (take_all c.loop-place.place commits (omega arith))
    ∙ ap (λ (bytes : List ℕ). c.args.file.now.items ++ bytes) (sym (words_bytes-all commits))
