-- The search stops at the first failure.
use Rattle.gix_hash_core.specs.Oid.{oid_bytes}
use Rattle.gix_commitgraph.specs.Opening.{file_opened}
use Rattle.graph_commands.proofs.FindLemmas.{finds-stopping}
use Rattle.graph_commands.proofs.find.FinderOpener.file.Goals as goal

pub returns-clause-comes : goal.returns-clause-comes
returns-clause-comes g c =
    finds-stopping (g.T.Folder.tree c.args.folder.now) (oid_bytes c.args.self.now.id) _ _
    (λ tree. file_opened tree c.args.path.now)
    c.find_in_one.result c.find_in_one.ensures.failures c.find_in_one.ensures.finds
