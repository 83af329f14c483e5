-- The count is read by parts, or it is that of a graph that was checked.
use Rattle.std.proofs.Common.{inl, inr, refl, rules}
use Rattle.std.specs.Prelude.{Ok, Err}
use Rattle.graph_unchecked.proofs.FailureLemmas.{kept-unless}
use Rattle.unchecked_commands.proofs.OnlyAnswerLemmas.{so_of_only}
use Rattle.unchecked_questions.specs.Trusting.{IsCountOf}
use Rattle.unchecked_questions.proofs.asker.open_trusted.Goals as goal

pub returns-in-Ok-clause-count : goal.returns-in-Ok-clause-count
returns-in-Ok-clause-count g c =
    let known = g.T.Folder.tree c.args.folder.now in
    let path = c.args.path.now in
    let before = g.T.Folder.failure_count c.args.folder.now in
    let after = g.T.Folder.failure_count c.open.new.folder in
    let kept = kept-unless c.open.result before after (λ device. let is = c.in-Ok.is in cc) c.open.ensures.failures in
    let so = c.num_commits-commits.ensures known path c.in-Ok.ensures.graph in
    let count = c.num_commits-commits.result in
    inl (kept, so_of_only known path IsCountOf count (λ layers. IsCountOf layers count) (λ layers is. is) so)

pub returns-in-Ok-open_whole-clause-count : goal.returns-in-Ok-open_whole-clause-count
returns-in-Ok-open_whole-clause-count g c =
    let before = g.T.Folder.failure_count c.args.folder.now in
    let middle = g.T.Folder.failure_count c.open.new.folder in
    let kept =
    kept-unless c.open.result before middle (λ device. let is = c.in-Err-NotByParts.is in cc) c.open.ensures.failures in
    let opened = rw (c.open.ensures.tree, kept) at c.in-Ok-open_whole.ensures.opened in
    inr (Ok c.in-Ok-open_whole.whole.graph.layers, (opened, c.in-Ok-open_whole.ensures.right), search rules)

pub returns-in-Err-clause-count : goal.returns-in-Err-clause-count
returns-in-Err-clause-count g c =
    let before = g.T.Folder.failure_count c.args.folder.now in
    let middle = g.T.Folder.failure_count c.open.new.folder in
    let kept =
    kept-unless c.open.result before middle (λ device. let is = c.in-Err-NotByParts.is in cc) c.open.ensures.failures in
    let refused = rw (c.open.ensures.tree, kept) at c.in-Err.ensures.refused in
    inr (Err c.in-Err.refusal, refused, refl)

pub returns-in-Ok-open_whole-clause-kept : goal.returns-in-Ok-open_whole-clause-kept
returns-in-Ok-open_whole-clause-kept g c =
    c.keep.ensures (g.T.Folder.tree c.args.folder.now) c.args.path.now c.in-Ok-open_whole.ensures.right
    (λ is. rw c.open.ensures.tree at (c.in-Ok-open_whole.ensures.stays is))
