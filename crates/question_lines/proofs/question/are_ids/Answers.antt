-- The word spells an id, or none.
use Rattle.std.proofs.Common.{◌∷◌, ◌++◌, [], sym, ◌∙◌}
use Rattle.question_lines.proofs.QuestionLemmas.{not_spelled, one_read, read_id, read_none}
use Rattle.question_lines.proofs.question.are_ids.Goals as goal

pub returns-then-is_err-clause-no : goal.returns-then-is_err-clause-no
returns-then-is_err-clause-no c = λ no ids all.
    let none = read_none c.in-Some.word.now c.from_hex.result c.from_hex.ensures.err (sym c.is_err.ensures.value ∙
    c.if-is_err.true) in
    not_spelled c.args.words c.loop-word.words c.loop-word.invariant.0 ids c.in-Some.word.now c.next.new.self none.0
    c.loop-word.invariant.1 c.in-Some.ensures.steps none.1 all

pub loop-word-preserved : goal.loop-word-preserved
loop-word-preserved c =
    let read = read_id c.in-Some.word.now c.from_hex.result c.from_hex.ensures.ok (sym c.is_err.ensures.value ∙
    c.if-is_err.false) in (
      c.loop-word.invariant.0 ++ read.0 ∷ [],
      one_read c.args.words c.loop-word.words c.next.new.self c.loop-word.invariant.0 read.0 c.loop-word.invariant.1
          (c.in-Some.word.now, c.in-Some.ensures.steps, read.1),
    )
