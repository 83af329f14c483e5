-- What comes of the opener by parts.
use Rattle.graph_parts.proofs.OpenedLemmas.{info-come, info-read}
use Rattle.graph_parts.proofs.PathOpeningLemmas.{info-parts}
use Rattle.graph_parts.proofs.opening.open_info_parts.Goals as goal

pub returns-clause-opened : goal.returns-clause-opened
returns-clause-opened g c =
    rw c.parts_of_answer.ensures
    (info-parts (g.T.Folder.tree c.args.folder.now) c.args.path.now _ _ _ _ c.open_info_by.result
    (info-come (g.T.Folder.tree c.args.folder.now) g.T.Folder.gives g.T.Folder.gives_part _ _ _ _ _ _
    c.open_info_by.ensures.comes)).0

pub returns-clause-given : goal.returns-clause-given
returns-clause-given g c =
    rw c.parts_of_answer.ensures
    (info-read (g.T.Folder.tree c.args.folder.now) g.T.Folder.gives g.T.Folder.gives_part _ _ _ _ _ _
    c.open_info_by.ensures.comes)

pub returns-clause-failures : goal.returns-clause-failures
returns-clause-failures g c =
    rw c.parts_of_answer.ensures
    (info-parts (g.T.Folder.tree c.args.folder.now) c.args.path.now _ _ _ _ c.open_info_by.result
    (info-come (g.T.Folder.tree c.args.folder.now) g.T.Folder.gives g.T.Folder.gives_part _ _ _ _ _ _
    c.open_info_by.ensures.comes)).1
