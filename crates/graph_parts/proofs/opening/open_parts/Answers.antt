-- What comes of the opener by parts.
use Rattle.graph_parts.proofs.OpenedLemmas.{path-come, path-read}
use Rattle.graph_parts.proofs.PathOpeningLemmas.{path-parts}
use Rattle.graph_parts.proofs.opening.open_parts.Goals as goal

pub returns-clause-opened : goal.returns-clause-opened
returns-clause-opened g c =
    rw c.parts_of_answer.ensures
    (path-parts (g.T.Folder.tree c.args.folder.now) c.args.path.now _ _ _ _ c.open_by.result
    (path-come (g.T.Folder.tree c.args.folder.now) g.T.Folder.gives g.T.Folder.gives_part _ _ _ _ _ _
    c.open_by.ensures.comes)).0

pub returns-clause-given : goal.returns-clause-given
returns-clause-given g c =
    rw c.parts_of_answer.ensures
    (path-read (g.T.Folder.tree c.args.folder.now) g.T.Folder.gives g.T.Folder.gives_part _ _ _ _ _ _
    c.open_by.ensures.comes)

pub returns-clause-failures : goal.returns-clause-failures
returns-clause-failures g c =
    rw c.parts_of_answer.ensures
    (path-parts (g.T.Folder.tree c.args.folder.now) c.args.path.now _ _ _ _ c.open_by.result
    (path-come (g.T.Folder.tree c.args.folder.now) g.T.Folder.gives g.T.Folder.gives_part _ _ _ _ _ _
    c.open_by.ensures.comes)).1
