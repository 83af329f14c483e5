-- One line after another is answered.
use Rattle.std.proofs.Common.{◌∙◌, refl}
use Rattle.question_answers.specs.AnsweredLines.{MayBeTold}
use Rattle.question_lines.specs.declared.question.Question.TheVariants.{Reload}
use Rattle.question_answers.proofs.ReadLemmas.{reads_line}
use Rattle.question_answers.proofs.AnsweredLemmas.{answered_line, answered_more, answered_none, asks_kept}
use Rattle.question_answers.proofs.answering.answer_by.Goals as goal

pub loop-init : goal.loop-init
loop-init g c = record {
  answered = answered_none
      (MayBeTold (g.A.Asker.may_tell (g.A.Asker.known c.args.asker.now) (g.T.Folder.tree c.args.folder.now))) _ _ _;
  buffer = c.requires.buffer;
  known = refl;
  of = c.requires.of;
  tree = refl;
}

pub returns-in-Err-clause-answered : goal.returns-in-Err-clause-answered
returns-in-Err-clause-answered g c = (_, c.loop.invariant.answered, c.in-Err.ensures.error)

pub returns-then-not-branch-clause-answered : goal.returns-then-not-branch-clause-answered
returns-then-not-branch-clause-answered g c =
    let takes = c.in-Ok.ensures.line c.if-not-more.false in
    let asks = c.in_ok-answer_line.ensures.reload c.if-not-branch.true in
    let reload = rw c.line.ensures at asks.0 in
    rw (asks.1, asks.2) (
      _,
      c.loop.invariant.answered,
      (takes.0, reads_line _ _ takes.0 takes.1, asks_kept takes.0 c.read.new.self.line Reload takes.2 reload),
    )

pub loop-preserved : goal.loop-preserved
loop-preserved g c =
    let tell = g.A.Asker.may_tell (g.A.Asker.known c.args.asker.now) (g.T.Folder.tree c.args.folder.now) in
    let takes = c.in-Ok.ensures.line c.if-not-more.false in
    let told = rw (c.line.ensures, c.loop.invariant.tree, c.loop.invariant.known) at
    (c.in_ok-answer_line.ensures.told c.if-not-branch.false) in
    record {
      answered = answered_more (MayBeTold tell) _ _ _ _ _ _ _ _ _ c.loop.invariant.answered
          (answered_line tell _ _ _ _ _ _ c.read.new.self.line takes told);
      buffer = c.in_ok-answer_line.ensures.buffer;
      known = c.answer_line.ensures.known ∙ c.loop.invariant.known;
      of = rw c.loop.invariant.tree at c.answer_line.ensures.of;
      tree = c.answer_line.ensures.tree ∙ c.loop.invariant.tree;
    }

pub returns-clause-answered : goal.returns-clause-answered
returns-clause-answered g c = (_, c.loop.invariant.answered, λ is. cc)
