-- What is told is an answer that may be given.
use Rattle.std.proofs.Common.{◌≡◌, refl}
use Rattle.graph_commands.specs.Ancestor.{MayHaveWalk, MayRelate, ancestor_text, ancestor_status}
use Rattle.graph_commands.specs.OpenerAnswer.{MayOpen}
use Rattle.graph_commands.proofs.AncestorAnswers.{wants}
use Rattle.graph_commands.proofs.ToldLemmas.{tells, writes_refused}
use Rattle.graph_commands.proofs.ancestor.run_ancestor.Goals as goal

pub returns-in-Ok-clause-written : goal.returns-in-Ok-clause-written
returns-in-Ok-clause-written g c =
    let alone = c.ancestor.new.folder ≡ c.args.folder.now in
    let opens = MayOpen (g.T.Folder.tree c.args.folder.now) c.args.path.now (g.T.Folder.failure_count c.args.folder.now)
    (g.T.Folder.failure_count c.ancestor.new.folder) in
    tells (MayRelate c.args.first.now c.args.second.now alone opens) MayHaveWalk c.in-Ok.ancestry c.in-Ok.ensures.may
    (wants c.args.first.now c.args.second.now alone opens c.in-Ok.ancestry c.in-Ok.ensures.may) ancestor_text ancestor_status
    _ _ _ c.tell.ensures

pub returns-in-Err-clause-written : goal.returns-in-Err-clause-written
returns-in-Err-clause-written g c =
    writes_refused ancestor_text ancestor_status _ c.in-Err.refusal _ _ _ refl refl c.in-Err.ensures.may c.refuse.ensures
