-- What is told is found by parts, or by a check; and what is kept stays of the path.
use Rattle.std.proofs.Common.{Option, subst, sym}
use Rattle.std.specs.Prelude.{Err, Ok}
use Rattle.graph_folder.specs.Tree.{Tree}
use Rattle.graph_layer.specs.declared.opening.error.OpenError.TheVariants.{Device}
use Rattle.answer_lines.specs.Replies.{listed_reply, response_text}
use Rattle.answer_lines.specs.declared.reply.Form.TheVariants.{Whole}
use Rattle.graph_commands.specs.declared.refusal.Refusal.TheVariants.{Open, Walk}
use Rattle.graph_commands.specs.OpenerAnswer.{MayOpen}
use Rattle.graph_unchecked.specs.Trusted.{IsTrustedAt}
use Rattle.question_answers.specs.Taken.{Opener, opened_line}
use Rattle.graph_unchecked.proofs.FailureLemmas.{kept-unless, risen-if}
use Rattle.unchecked_questions.proofs.TrustingLemmas.{adds, adds_as, tells-failed, tells-over, tells-read, tells-wanting}
use Rattle.unchecked_questions.proofs.asker.answer_question.Goals as goal

pub returns-in-Ok-clause-told : goal.returns-in-Ok-clause-told
returns-in-Ok-clause-told g c =
    let opens : Opener = MayOpen (g.T.Folder.tree c.args.folder.now) c.args.path.now in
    let of = rw c.in-Parts.is at c.requires.kept in
    adds c.push.result _ (response_text Whole (Ok (listed_reply c.in-Ok.reply))) _ _
    (tells-read opens _ _ c.args.question.now (listed_reply c.in-Ok.reply) c.requires.asks
    (c.in-Ok.ensures.reply c.args.path.now of)) c.push.ensures

pub returns-in-Ok-clause-kept : goal.returns-in-Ok-clause-kept
returns-in-Ok-clause-kept g c = c.ask_by_parts.ensures.graph c.args.path.now (rw c.in-Parts.is at c.requires.kept)

pub returns-in-Err-Device-clause-told : goal.returns-in-Err-Device-clause-told
returns-in-Err-Device-clause-told g c =
    let before = g.T.Folder.failure_count c.args.folder.now in
    let after = g.T.Folder.failure_count c.ask_by_parts.new.folder in
    let opens : Opener = MayOpen (g.T.Folder.tree c.args.folder.now) c.args.path.now in
    let device = rw c.in-Err-Device.field-0-is at c.in-Err-Device.is in
    let rose = risen-if c.ask_by_parts.result before after device c.ask_by_parts.ensures.failures in
    adds c.push_refusal.result _ (opened_line (Err (Open Device))) _ _
    (tells-failed opens before after c.args.question.now rose c.requires.asks) c.push_refusal.ensures

pub returns-in-Err-Device-clause-kept : goal.returns-in-Err-Device-clause-kept
returns-in-Err-Device-clause-kept g c =
    c.ask_by_parts.ensures.graph c.args.path.now (rw c.in-Parts.is at c.requires.kept)

pub returns-in-Err-OutOfMemory-clause-told : goal.returns-in-Err-OutOfMemory-clause-told
returns-in-Err-OutOfMemory-clause-told g c =
    let before = g.T.Folder.failure_count c.args.folder.now in
    let after = g.T.Folder.failure_count c.ask_by_parts.new.folder in
    let kept =
    kept-unless c.ask_by_parts.result before after (λ device. let is = c.in-Err-OutOfMemory.is in cc)
    c.ask_by_parts.ensures.failures in
    let opens : Opener = MayOpen (g.T.Folder.tree c.args.folder.now) c.args.path.now in
    adds c.push_refusal-in-Err-OutOfMemory.result _ (opened_line (Err Walk)) _ _
    (tells-wanting opens before after c.args.question.now kept c.requires.asks)
    c.push_refusal-in-Err-OutOfMemory.ensures

pub returns-in-Err-OutOfMemory-clause-kept : goal.returns-in-Err-OutOfMemory-clause-kept
returns-in-Err-OutOfMemory-clause-kept g c =
    c.ask_by_parts.ensures.graph c.args.path.now (rw c.in-Parts.is at c.requires.kept)

pub returns-in-Err-NotByParts-clause-told : goal.returns-in-Err-NotByParts-clause-told
returns-in-Err-NotByParts-clause-told g c =
    let before = g.T.Folder.failure_count c.args.folder.now in
    let after = g.T.Folder.failure_count c.ask_by_parts.new.folder in
    let kept =
    kept-unless c.ask_by_parts.result before after (λ device. let is = c.in-Err-NotByParts.is in cc)
    c.ask_by_parts.ensures.failures in
    rw (c.ask_by_parts.ensures.tree, kept) at c.answer_checked.ensures.told

pub returns-in-Err-NotByParts-clause-kept : goal.returns-in-Err-NotByParts-clause-kept
returns-in-Err-NotByParts-clause-kept g c = rw c.ask_by_parts.ensures.tree at c.answer_checked.ensures.kept

pub answer_checked-requires-clause-kept : goal.answer_checked-requires-clause-kept
answer_checked-requires-clause-kept g c =
    let path = c.args.path.now in
    subst (λ (known : Option Tree). IsTrustedAt known path c.ask_by_parts.new.graph) (sym c.ask_by_parts.ensures.tree)
    (c.ask_by_parts.ensures.graph path (rw c.in-Parts.is at c.requires.kept))

pub returns-in-Whole-clause-told : goal.returns-in-Whole-clause-told
returns-in-Whole-clause-told g c =
    let failures = g.T.Folder.failure_count c.args.folder.now in
    let stays = rw c.in-Whole.is at c.requires.kept in
    let opens : Opener = MayOpen (g.T.Folder.tree c.args.folder.now) c.args.path.now in
    let asked = c.args.question.now in
    adds_as c.answer_whole.result _ _ _ _
    (λ told tells. tells-over opens failures failures asked c.in-Whole.graph.layers told (stays.0 failures) stays.1 tells)
    c.answer_whole.ensures
