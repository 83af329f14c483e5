-- What came by parts is told; or where they do not suffice, what is said of the whole graph.
use Rattle.std.proofs.Common.{Some, None, Err}
use Rattle.graph_commands.specs.OpenerAnswer.{MayOpen}
use Rattle.newer_commands.specs.AskedReply.{listed_verdict}
use Rattle.newer_unchecked.specs.TrustedOnTop.{IsToldByParts}
use Rattle.newer_unchecked.proofs.TellLemmas.{by_parts, counted_none, counted_read, tells_so, told_of_whole, told_read}
use Rattle.newer_unchecked.proofs.TellLemmas.{whole_read, whole_told}
use Rattle.newer_unchecked.proofs.run.tell_by_parts.Goals as goal

pub returns-in-Some-clause-written : goal.returns-in-Some-clause-written
returns-in-Some-clause-written g c =
    let known = g.T.Folder.tree c.args.folder.now in
    let path = c.args.path.now in
    let before = g.T.Folder.failure_count c.args.folder.now in
    let after = g.T.Folder.failure_count c.find_by_parts.new.folder in
    let bytes = g.R.Read.remaining c.args.reader.now in
    let question = c.args.question.now in
    let found = listed_verdict c.in-Some.verdict in
    let comes = rw c.in-Some.is at c.in_ok-found.ensures.found in
    let counted = rw c.in-Some.is at c.in_ok-found.ensures.counted in
    tells_so c.tell_at_last.result c.args.form (IsToldByParts (MayOpen known path) before after bytes question) found comes.0 _ _
    _ comes.1
    (λ told is.
    by_parts known path before after bytes question comes.0 (Some found) told (comes.2 path c.requires.graph)
    is
    (told_read (MayOpen known path) before after found told is
    (counted_read (MayOpen known path) before after found counted)))
    c.tell_at_last.ensures

pub returns-clause-written : goal.returns-clause-written
returns-clause-written g c =
    let known = g.T.Folder.tree c.args.folder.now in
    let path = c.args.path.now in
    let before = g.T.Folder.failure_count c.args.folder.now in
    let after = g.T.Folder.failure_count c.refusal_of_whole-refusal.new.folder in
    let bytes = g.R.Read.remaining c.args.reader.now in
    let question = c.args.question.now in
    let refusal = c.refusal_of_whole-refusal.result in
    let comes = rw c.in-None.is at c.in_ok-found.ensures.found in
    let counted = rw c.in-None.is at c.in_ok-found.ensures.counted in
    let kept = counted_none before (g.T.Folder.failure_count c.find_by_parts.new.folder) counted in
    let whole = rw (c.find_by_parts.ensures.tree, kept) at c.refusal_of_whole-refusal.ensures.refusal in
    tells_so c.tell_at_last-in-None.result c.args.form (IsToldByParts (MayOpen known path) before after bytes question)
    (Err refusal) comes.0 _ _ _ comes.1
    (λ told is.
    by_parts known path before after bytes question comes.0 None told (comes.2 path c.requires.graph)
    (told_of_whole refusal told (whole_told (MayOpen known path) before after refusal whole) is)
    (told_read (MayOpen known path) before after (Err refusal) told is
    (whole_read (MayOpen known path) before after refusal whole)))
    c.tell_at_last-in-None.ensures
