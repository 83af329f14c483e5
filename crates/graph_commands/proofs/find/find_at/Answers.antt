-- What stands at the path decides.
use Rattle.gix_hash_core.specs.Oid.{oid_bytes}
use Rattle.graph_commands.proofs.FindLemmas.{finds-path}
use Rattle.graph_commands.proofs.find.find_at.Goals as goal

pub returns-clause-finds : goal.returns-clause-finds
returns-clause-finds g c =
    finds-path (g.T.Folder.tree c.args.folder.now) (oid_bytes c.args.id) c.args.path.now _ _ _ _ c.open_by.result
    c.open_by.ensures.comes
