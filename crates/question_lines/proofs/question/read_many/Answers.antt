-- From one id after another to all.
use Rattle.std.proofs.Common.{[], ◌∷◌}
use Rattle.question_lines.proofs.QuestionLemmas.{all_read, no_first, none_left, none_read, one_alone, one_read, two_at_least}
use Rattle.question_lines.proofs.QuestionLemmas.{no_others, on_err, some_others}
use Rattle.question_lines.proofs.question.read_many.Goals as goal

pub returns-in_default-clause-none : goal.returns-in_default-clause-none
returns-in_default-clause-none c = λ none first others some all. no_first c.args.words c.in_default.ensures first others all

pub loop-id-init : goal.loop-id-init
loop-id-init c =
    rw c.new-others.ensures.items (one_read c.args.words c.args.words c.next_id.new.words [] c.in-Some.first (none_read
    c.args.words) c.in-Some.ensures)

pub loop-id-preserved : goal.loop-id-preserved
loop-id-preserved c =
    rw c.in_ok-push.ensures.items
    (one_read c.args.words c.loop-id.words c.next_id-in-loop-id.new.words (c.in-Some.first ∷ c.loop-id.others.items)
    c.in-Some-next_id.id c.loop-id.invariant c.in-Some-next_id.ensures)

pub returns-in_err-push-clause-memory : goal.returns-in_err-push-clause-memory
returns-in_err-push-clause-memory c =
    let those = rw c.again.ensures at (c.are_ids.ensures.yes c.if-not-are_ids.false) in
    on_err c.from_residual.result _ (
      those.0,
      those.1,
      two_at_least c.args.words c.loop-id.words c.next_id-in-loop-id.new.words c.loop-id.others.items those.0 c.in-Some.first
          c.in-Some-next_id.id c.loop-id.invariant c.in-Some-next_id.ensures those.1,
    )

pub returns-then-is_empty-clause-none : goal.returns-then-is_empty-clause-none
returns-then-is_empty-clause-none c = λ none first others some all.
    let left = none_left c.args.words c.loop-id.words (c.in-Some.first ∷ c.loop-id.others.items) (first ∷ others)
    c.loop-id.invariant all
    c.in_default-next_id.ensures in
    let read = all_read c.args.words c.loop-id.words (c.in-Some.first ∷ c.loop-id.others.items) c.loop-id.invariant left in
    let empty = no_others c.loop-id.others c.is_empty.result c.is_empty.ensures c.if-is_empty.true in
    one_alone c.args.words c.in-Some.first first others (rw empty at read) some all

pub returns-clause-some : goal.returns-clause-some
returns-clause-some c =
    let those = rw c.again.ensures at (c.are_ids.ensures.yes c.if-not-are_ids.false) in
    let left = none_left c.args.words c.loop-id.words (c.in-Some.first ∷ c.loop-id.others.items) those.0 c.loop-id.invariant
    those.1
    c.in_default-next_id.ensures in (
      all_read c.args.words c.loop-id.words (c.in-Some.first ∷ c.loop-id.others.items) c.loop-id.invariant left,
      some_others c.loop-id.others c.is_empty.result c.is_empty.ensures c.if-is_empty.false,
    )
