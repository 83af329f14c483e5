-- The lines are answered over what is kept, which may be opened anew between them.
use Rattle.std.proofs.Common.{◌≡◌, ◌∙◌, List, ℕ, Option, ap, refl, rules, subst, sym}
use Rattle.std.specs.Io.KnownBytes.{prepend_known}
use Rattle.std.proofs.KnownBytes.{prepend_known-nil}
use Rattle.graph_commands.specs.OpenerAnswer.{MayOpen}
use Rattle.question_answers.specs.AnsweredLines.{AreAnswered, MayBeTold}
use Rattle.question_answers.specs.Taken.{Opener}
use Rattle.question_answers.proofs.AnsweredLemmas.{answered_more, answered_none, answered_so, answered_to_end}
use Rattle.question_answers.proofs.AnsweredLemmas.{answered_to_failure}
use Rattle.unchecked_questions.specs.Trusting.{MayTellAsked, MayTellTrusted}
use Rattle.unchecked_questions.proofs.TrustingLemmas.{answered_anew, trusts}
use Rattle.unchecked_questions.proofs.trusting.answer_lines.Goals as goal

pub loop-init : goal.loop-init
loop-init g c =
    let input = g.R.Read.remaining c.args.reader.now in
    let old = g.W.Write.contents c.args.writer.now in
    let tell = MayTellTrusted (MayOpen (g.T.Folder.tree c.args.folder.now) c.args.asker.now.path.now) in
    let failures = g.T.Folder.failure_count c.args.folder.now in
    let same : prepend_known c.args.lines.now.ahead input ≡ input =
    ap (λ (ahead : List ℕ). prepend_known ahead input) c.requires.lines ∙ prepend_known-nil input in
    record {
      answered = subst (λ (left : Option (List ℕ)). AreAnswered tell failures failures input left old old) (sym same)
          (answered_none tell failures input old);
      kept = c.requires.kept;
      path = refl;
      buffer = c.requires.buffer;
      tree = refl;
    }

pub returns-in-End-clause-answered : goal.returns-in-End-clause-answered
returns-in-End-clause-answered g c =
    let opens : Opener = MayOpen (g.T.Folder.tree c.args.folder.now) c.args.asker.now.path.now in
    let tell = MayTellTrusted opens in
    let over = rw (c.loop.invariant.tree, c.loop.invariant.path) at c.in_ok-next.ensures.answered in
    let end = rw c.in-End.is at over.2 in
    let told = answered_so (MayBeTold (MayTellAsked opens)) tell (trusts opens) _ _ _ over.0 _ _ over.1 in
    answered_to_end tell _ _ _ over.0 _ _ _ c.answer_by.new.lines.ahead
    (answered_more tell _ _ _ _ _ over.0 _ _ _ c.loop.invariant.answered told) end

pub returns-in-Failed-clause-answered : goal.returns-in-Failed-clause-answered
returns-in-Failed-clause-answered g c =
    let opens : Opener = MayOpen (g.T.Folder.tree c.args.folder.now) c.args.asker.now.path.now in
    let tell = MayTellTrusted opens in
    let over = rw (c.loop.invariant.tree, c.loop.invariant.path) at c.in_ok-next.ensures.answered in
    let failed = rw c.in-Failed.is at over.2 in
    let told = answered_so (MayBeTold (MayTellAsked opens)) tell (trusts opens) _ _ _ over.0 _ _ over.1 in
    answered_to_failure tell _ _ _ over.0 (g.R.Read.remaining c.answer_by.new.reader) _ _ c.in-Failed.error
    (answered_more tell _ _ _ _ _ over.0 _ _ _ c.loop.invariant.answered told) failed

pub loop-preserved : goal.loop-preserved
loop-preserved g c =
    let opens : Opener = MayOpen (g.T.Folder.tree c.args.folder.now) c.args.asker.now.path.now in
    let tell = MayTellTrusted opens in
    let over = rw (c.loop.invariant.tree, c.loop.invariant.path) at c.in_ok-next.ensures.answered in
    let asks = rw c.in-Reload.is at over.2 in
    let told = answered_so (MayBeTold (MayTellAsked opens)) tell (trusts opens) _ _ _ over.0 _ _ over.1 in
    let tree = c.answer_by.ensures.tree ∙ c.loop.invariant.tree in
    let path = c.answer_by.ensures.known ∙ c.loop.invariant.path in
    let anew = rw (tree, path) at c.in_ok-reload-in-Reload.ensures.told in
    record {
      answered = answered_more tell _ _ _ _ _ _ _ _ _
          (answered_more tell _ _ _ _ _ over.0 _ _ _ c.loop.invariant.answered told)
          (answered_anew opens _ _ asks.0 over.0 _ _ _ asks.1 asks.2 anew);
      kept = rw (tree, path) at c.reload.ensures.kept;
      path = search rules;
      buffer = c.in_ok-next.ensures.buffer;
      tree = c.reload.ensures.tree ∙ tree;
    }

pub returns-clause-answered : goal.returns-clause-answered
returns-clause-answered g c =
    answered_to_failure (MayTellTrusted (MayOpen (g.T.Folder.tree c.args.folder.now) c.args.asker.now.path.now)) _ _ _ _
    (g.R.Read.remaining c.loop.reader) _ _ _
    c.loop.invariant.answered (λ is. cc)
