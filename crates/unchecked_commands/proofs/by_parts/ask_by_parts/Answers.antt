-- What is found by parts may be answered.
use Rattle.graph_unchecked.proofs.FailureLemmas.{kept-unless}
use Rattle.unchecked_commands.proofs.PartReplyLemmas.{reads-compared, reads-found, reads-parents, reads-told, reads-walk}
use Rattle.unchecked_commands.proofs.by_parts.ask_by_parts.Goals as goal

pub returns-in-Ok-clause-reply : goal.returns-in-Ok-clause-reply
returns-in-Ok-clause-reply g c = λ path of.
    let before = g.T.Folder.failure_count c.args.folder.now in
    let after = g.T.Folder.failure_count c.find.new.folder in
    let kept = kept-unless c.find.result before after (λ device. let is = c.in-Ok.is in cc) c.find.ensures.failures in
    let so = rw c.as_oid.ensures at (c.in-Ok.ensures.answer path of) in
    rw (c.in-Find.is, c.describe.ensures)
    (reads-found (g.T.Folder.tree c.args.folder.now) path before after kept c.in-Find.id c.in-Ok.found so)

pub returns-in-Ok-is_ancestor-clause-reply : goal.returns-in-Ok-is_ancestor-clause-reply
returns-in-Ok-is_ancestor-clause-reply g c = λ path of.
    let before = g.T.Folder.failure_count c.args.folder.now in
    let after = g.T.Folder.failure_count c.is_ancestor.new.folder in
    let kept =
    kept-unless c.is_ancestor.result before after (λ device. let is = c.in-Ok-is_ancestor.is in cc)
    c.is_ancestor.ensures.failures in
    let so =
    rw (c.as_oid-in-IsAncestor.ensures, c.as_oid-in-IsAncestor-2.ensures) at (c.in-Ok-is_ancestor.ensures.answer path of) in
    rw c.in-IsAncestor.is
    (reads-told (g.T.Folder.tree c.args.folder.now) path before after kept c.in-IsAncestor.first c.in-IsAncestor.second
    c.in-Ok-is_ancestor.told so)

pub returns-in-Ok-ancestor_walk-clause-reply : goal.returns-in-Ok-ancestor_walk-clause-reply
returns-in-Ok-ancestor_walk-clause-reply g c = λ path of.
    let before = g.T.Folder.failure_count c.args.folder.now in
    let after = g.T.Folder.failure_count c.ancestor_walk.new.folder in
    let kept =
    kept-unless c.ancestor_walk.result before after (λ device. let is = c.in-Ok-ancestor_walk.is in cc)
    c.ancestor_walk.ensures.failures in
    let so =
    rw (c.as_oid-in-Walk.ensures, c.as_oid-in-Walk-2.ensures) at (c.in-Ok-ancestor_walk.ensures.answer path of) in
    rw c.in-Walk.is
    (reads-walk (g.T.Folder.tree c.args.folder.now) path before after kept c.in-Walk.first c.in-Walk.second
    c.in-Ok-ancestor_walk.walk so)

pub returns-in-Ok-compare-clause-reply : goal.returns-in-Ok-compare-clause-reply
returns-in-Ok-compare-clause-reply g c = λ path of.
    let before = g.T.Folder.failure_count c.args.folder.now in
    let after = g.T.Folder.failure_count c.compare.new.folder in
    let kept =
    kept-unless c.compare.result before after (λ device. let is = c.in-Ok-compare.is in cc) c.compare.ensures.failures in
    let so =
    rw (c.as_oid-in-MergeBase.ensures, c.deref.ensures.value) at (c.in-Ok-compare.ensures.answer path of) in
    rw c.in-MergeBase.is
    (reads-compared (g.T.Folder.tree c.args.folder.now) path before after kept c.in-MergeBase.first c.in-MergeBase.others
    c.in-Ok-compare.compared so)

pub returns-in-Ok-parents-clause-reply : goal.returns-in-Ok-parents-clause-reply
returns-in-Ok-parents-clause-reply g c = λ path of.
    let before = g.T.Folder.failure_count c.args.folder.now in
    let after = g.T.Folder.failure_count c.parents.new.folder in
    let kept =
    kept-unless c.parents.result before after (λ device. let is = c.in-Ok-parents.is in cc) c.parents.ensures.failures in
    let so = rw c.as_oid-in-Parents.ensures at (c.in-Ok-parents.ensures.answer path of) in
    rw c.in-Parents.is
    (reads-parents (g.T.Folder.tree c.args.folder.now) path before after kept c.in-Parents.id c.in-Ok-parents.parents so)
