-- What is told by parts, or at once, or over a graph that is checked.
use Rattle.std.proofs.Common.{◌≡◌, ℕ, List, Option, Some, ap, inl, inr, option_map, sym, subst}
use Rattle.std.specs.Prelude.{IfOk}
use Rattle.graph_commands.specs.OpenerAnswer.{MayOpen}
use Rattle.graph_commands.specs.WrittenAnswer.{WritesAnswer}
use Rattle.graph_commands.specs.declared.refusal.Refusal.TheVariants.{Open, Walk}
use Rattle.graph_layer.specs.declared.opening.error.OpenError.TheVariants.{Device}
use Rattle.graph_unchecked.proofs.FailureLemmas.{kept-unless, risen-if}
use Rattle.newer_commands.specs.AskedNewer.{IsRefusedAtOnce}
use Rattle.newer_commands.specs.AskedReply.{asked_status, asked_text}
use Rattle.newer_unchecked.specs.TrustedOnTop.{IsToldByParts, MayReplyTrustedNewer}
use Rattle.newer_unchecked.proofs.TellLemmas.{writes_wider}
use Rattle.newer_unchecked.proofs.run.run_question_newer_unchecked.Goals as goal

pub returns-in-Ok-clause-written : goal.returns-in-Ok-clause-written
returns-in-Ok-clause-written g c =
    let tree = g.T.Folder.tree c.args.folder.now in
    let before = g.T.Folder.failure_count c.args.folder.now in
    let middle = g.T.Folder.failure_count c.open.new.folder in
    let after = g.T.Folder.failure_count c.tell_by_parts.new.folder in
    let left = c.tell_by_parts.new.folder ≡ c.args.folder.now in
    let bytes = g.R.Read.remaining c.args.reader.now in
    let unread = g.R.Read.remaining c.tell_by_parts.new.reader in
    let question = c.args.question.now in
    let result = c.tell_by_parts.result in
    let form = c.args.form in
    let old = g.W.Write.contents c.args.writer.now in
    let new = g.W.Write.contents c.tell_by_parts.new.writer in
    let kept = kept-unless c.open.result before middle (λ device. let is = c.in-Ok.is in cc) c.open.ensures.failures in
    let written = rw (c.open.ensures.tree, kept) at c.tell_by_parts.ensures.written in
    subst
    (λ (path : Option (List ℕ)). IfOk result (WritesAnswer (asked_text form) asked_status
    (MayReplyTrustedNewer path left (λ at. MayOpen tree at) before after bytes unread question) old new))
    (sym (ap (option_map (λ p. p.now)) c.in-Some.is))
    (writes_wider result form (IsToldByParts (MayOpen tree c.in-Some.path.now) before after bytes question)
    (MayReplyTrustedNewer (Some c.in-Some.path.now) left (λ at. MayOpen tree at) before after bytes unread question) old new
    (λ told is. inl is) written)

pub returns-in-Err-Device-clause-written : goal.returns-in-Err-Device-clause-written
returns-in-Err-Device-clause-written g c =
    let tree = g.T.Folder.tree c.args.folder.now in
    let before = g.T.Folder.failure_count c.args.folder.now in
    let after = g.T.Folder.failure_count c.open.new.folder in
    let left = c.open.new.folder ≡ c.args.folder.now in
    let bytes = g.R.Read.remaining c.args.reader.now in
    let question = c.args.question.now in
    let result = c.refuse_at_once.result in
    let form = c.args.form in
    let old = g.W.Write.contents c.args.writer.now in
    let new = g.W.Write.contents c.refuse_at_once.new.writer in
    let device = rw c.in-Err-Device.field-0-is at c.in-Err-Device.is in
    let counted = risen-if c.open.result before after device c.open.ensures.failures in
    subst
    (λ (path : Option (List ℕ)). IfOk result (WritesAnswer (asked_text form) asked_status
    (MayReplyTrustedNewer path left (λ at. MayOpen tree at) before after bytes bytes question) old new))
    (sym (ap (option_map (λ p. p.now)) c.in-Some.is))
    (writes_wider result form (IsRefusedAtOnce (Open Device))
    (MayReplyTrustedNewer (Some c.in-Some.path.now) left (λ at. MayOpen tree at) before after bytes bytes question) old new
    (λ told is. inr (inl (is.0, inl (is.1, counted)))) (c.refuse_at_once.ensures form))

pub returns-in-Err-OutOfMemory-clause-written : goal.returns-in-Err-OutOfMemory-clause-written
returns-in-Err-OutOfMemory-clause-written g c =
    let tree = g.T.Folder.tree c.args.folder.now in
    let before = g.T.Folder.failure_count c.args.folder.now in
    let after = g.T.Folder.failure_count c.open.new.folder in
    let left = c.open.new.folder ≡ c.args.folder.now in
    let bytes = g.R.Read.remaining c.args.reader.now in
    let question = c.args.question.now in
    let result = c.refuse_at_once-in-Err-OutOfMemory.result in
    let form = c.args.form in
    let old = g.W.Write.contents c.args.writer.now in
    let new = g.W.Write.contents c.refuse_at_once-in-Err-OutOfMemory.new.writer in
    let counted =
    kept-unless c.open.result before after (λ device. let is = c.in-Err-OutOfMemory.is in cc) c.open.ensures.failures in
    subst
    (λ (path : Option (List ℕ)). IfOk result (WritesAnswer (asked_text form) asked_status
    (MayReplyTrustedNewer path left (λ at. MayOpen tree at) before after bytes bytes question) old new))
    (sym (ap (option_map (λ p. p.now)) c.in-Some.is))
    (writes_wider result form (IsRefusedAtOnce Walk)
    (MayReplyTrustedNewer (Some c.in-Some.path.now) left (λ at. MayOpen tree at) before after bytes bytes question) old new
    (λ told is. inr (inl (is.0, inr (is.1, counted)))) (c.refuse_at_once-in-Err-OutOfMemory.ensures form))
