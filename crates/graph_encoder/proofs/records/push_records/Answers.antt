use Rattle.std.proofs.Common.{◌≡◌, ◌+◌, ◌<◌, ◌∙◌, ℕ, List, ap, length, drop, arith}
use Rattle.graph_encoder.specs.ExtraEdges.{extra_words, all_extra_words}
use Rattle.graph_encoder.proofs.ExtraWords.{words-step}
use Rattle.graph_encoder.proofs.Pushes.{records-step}
use Rattle.graph_encoder.proofs.RowSteps.{row-here, planned-here}
use Rattle.graph_encoder.proofs.records.push_records.Given.{Over}
use Rattle.graph_encoder.proofs.records.push_records.Goals as goal

-- the words of this commit and of those before it are some of all
words : (g : Over) (c : goal.After-extra_words_len g)
    → c.loop-place.index + c.extra_words_len.result + length
    (all_extra_words (drop (c.loop-place.place + 1) (g.P.PlanView.as_plan c.args.plan.now).commits.items))
    ≡ length (all_extra_words (g.P.PlanView.as_plan c.args.plan.now).commits.items)
words g c =
    let plan = g.P.PlanView.as_plan c.args.plan.now in
    let within : c.loop-place.place < length plan.commits.items = omega arith in
    let here = row-here plan c.loop-place.place c.row-row.result within c.row-row.ensures in
    words-step plan.commits.items c.loop-place.place c.loop-place.index c.extra_words_len.result
    (length (all_extra_words plan.commits.items)) here.0 within here.1.is
    (c.extra_words_len.ensures ∙ ap (λ (parents : List ℕ). length (extra_words parents)) here.1.says.parents)
    c.loop-place.invariant.words

pub push_record-requires-clause-index : goal.push_record-requires-clause-index
push_record-requires-clause-index g c = omega (arith, c.loop-place.invariant.words, c.requires.few_words)

pub push_record-requires-clause-generation : goal.push_record-requires-clause-generation
push_record-requires-clause-generation g c =
    let plan = g.P.PlanView.as_plan c.args.plan.now in
    let within : c.loop-place.place < length plan.commits.items = omega arith in
    let here = row-here plan c.loop-place.place c.row-row.result within c.row-row.ensures in
    omega (
      arith,
      here.1.says.generation,
      (planned-here plan c.loop-place.place c.row-row.result here.0 c.requires here.1).generation,
    )

pub push_record-requires-clause-time : goal.push_record-requires-clause-time
push_record-requires-clause-time g c =
    let plan = g.P.PlanView.as_plan c.args.plan.now in
    let within : c.loop-place.place < length plan.commits.items = omega arith in
    let here = row-here plan c.loop-place.place c.row-row.result within c.row-row.ensures in
    omega (arith, here.1.says.time, (planned-here plan c.loop-place.place c.row-row.result here.0 c.requires here.1).time)

pub overflow_cast-index : goal.overflow_cast-index
overflow_cast-index g c = omega (arith, words g c, c.requires.few_words)

pub overflow_add-index : goal.overflow_add-index
overflow_add-index g c = omega (arith, words g c, c.requires.few_words)

pub loop-place-preserved : goal.loop-place-preserved
loop-place-preserved g c =
    let plan = g.P.PlanView.as_plan c.args.plan.now in
    let within : c.loop-place.place < length plan.commits.items = omega arith in
    let here = row-here plan c.loop-place.place c.row-row.result within c.row-row.ensures in
    record {
      records =
          records-step plan.commits.items c.loop-place.place c.loop-place.index c.extra_words_len.result here.0 _ _ _
          within here.1.is
          (c.extra_words_len.ensures ∙ ap (λ (parents : List ℕ). length (extra_words parents)) here.1.says.parents)
          (c.in_ok-push_record.ensures here.0 here.1.says) c.loop-place.invariant.records;
      words = words g c;
    }
