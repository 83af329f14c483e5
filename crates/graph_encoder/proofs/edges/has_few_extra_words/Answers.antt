use Rattle.std.proofs.Common.{◌≡◌, ◌+◌, ◌<◌, ℕ, List, length, drop, ap, ◌∙◌, arith}
use Rattle.graph_encoder.specs.ExtraEdges.{extra_words, all_extra_words}
use Rattle.graph_encoder.specs.Rows.{IsRowAt}
use Rattle.graph_encoder.specs.declared.plan.FilePlan.{FilePlan}
use Rattle.graph_encoder.specs.declared.row.PlanRow.{PlanRow}
use Rattle.graph_encoder.proofs.ExtraWords.{length-extra_words-le, words-step, words-end}
use Rattle.graph_encoder.proofs.RowSteps.{row-here}
use Rattle.graph_encoder.proofs.edges.has_few_extra_words.Goals as goal

pub overflow_add-words : goal.overflow_add-words
overflow_add-words g c =
    let plan = g.P.PlanView.as_plan c.args.plan.now in
    let within : c.loop-place.place < length plan.commits.items = omega arith in
    let here = row-here plan c.loop-place.place c.row.result within c.row.ensures in
    omega (
      arith,
      c.extra_words_len-words.ensures,
      length-extra_words-le c.row.result.parents.now,
      ap length here.1.says.parents,
      here.0.parents.ok,
      here.0.parents.small,
      c.loop-place.invariant.few,
    )

-- the words of this commit and of those before it are some of all
step : (plan : FilePlan) (i words count : ℕ) (row : PlanRow) → i < length plan.commits.items → IsRowAt plan i row
    → count ≡ length (extra_words row.parents.now)
    → words + length (all_extra_words (drop i plan.commits.items)) ≡ length (all_extra_words plan.commits.items)
    → words + count + length (all_extra_words (drop (i + 1) plan.commits.items)) ≡ length (all_extra_words plan.commits.items)
step plan i words count row within at counted so_far =
    let here = row-here plan i row within at in
    words-step plan.commits.items i words count (length (all_extra_words plan.commits.items)) here.0 within here.1.is
    (counted ∙ ap (λ (parents : List ℕ). length (extra_words parents)) here.1.says.parents) so_far

pub returns-then-words-ge-EXTRA_WORDS_LIMIT : goal.returns-then-words-ge-EXTRA_WORDS_LIMIT
returns-then-words-ge-EXTRA_WORDS_LIMIT g c =
    let more =
    step (g.P.PlanView.as_plan c.args.plan.now) c.loop-place.place c.loop-place.words c.extra_words_len-words.result c.row.result
    (omega arith) c.row.ensures c.extra_words_len-words.ensures c.loop-place.invariant.all in
    grind (arith, more)

pub loop-place-preserved : goal.loop-place-preserved
loop-place-preserved g c = record {
  all =
      step (g.P.PlanView.as_plan c.args.plan.now) c.loop-place.place c.loop-place.words c.extra_words_len-words.result
      c.row.result (omega arith) c.row.ensures c.extra_words_len-words.ensures c.loop-place.invariant.all;
  few = omega arith;
}

pub returns : goal.returns
returns g c =
    let commits = (g.P.PlanView.as_plan c.args.plan.now).commits.items in
    let all =
    words-end commits c.loop-place.place c.loop-place.words (length (all_extra_words commits)) (omega arith)
    c.loop-place.invariant.all in
    grind (arith, all)
