use Rattle.std.proofs.Common.{◌≡◌, ◌+◌, ◌<◌, ◌∙◌, ℕ, List, ap, length, drop, arith}
use Rattle.graph_encoder.specs.ExtraEdges.{extra_words, all_extra_words}
use Rattle.graph_encoder.proofs.ExtraWords.{words-step, words-end}
use Rattle.graph_encoder.proofs.RowSteps.{row-here}
use Rattle.graph_encoder.proofs.edges.count_extra_words.Given.{Over}
use Rattle.graph_encoder.proofs.edges.count_extra_words.Goals as goal

-- the words of this commit and of those before it are some of all
step : (g : Over) (c : goal.After-extra_words_len-words g)
    → c.loop-place.words + c.extra_words_len-words.result + length
    (all_extra_words (drop (c.loop-place.place + 1) (g.P.PlanView.as_plan c.args.plan.now).commits.items))
    ≡ length (all_extra_words (g.P.PlanView.as_plan c.args.plan.now).commits.items)
step g c =
    let plan = g.P.PlanView.as_plan c.args.plan.now in
    let within : c.loop-place.place < length plan.commits.items = omega arith in
    let here = row-here plan c.loop-place.place c.row.result within c.row.ensures in
    words-step plan.commits.items c.loop-place.place c.loop-place.words c.extra_words_len-words.result
    (length (all_extra_words plan.commits.items)) here.0 within here.1.is
    (c.extra_words_len-words.ensures ∙ ap (λ (parents : List ℕ). length (extra_words parents)) here.1.says.parents)
    c.loop-place.invariant

pub overflow_add-words : goal.overflow_add-words
overflow_add-words g c = omega (arith, step g c, c.requires)

pub loop-place-preserved : goal.loop-place-preserved
loop-place-preserved g c = step g c

pub returns : goal.returns
returns g c =
    let commits = (g.P.PlanView.as_plan c.args.plan.now).commits.items in
    words-end commits c.loop-place.place c.loop-place.words (length (all_extra_words commits)) (omega arith)
    c.loop-place.invariant
