-- What was opened is as it was read, also where the check refuses it.
use Rattle.std.proofs.Common.{Ok, List, subst, sym}
use Rattle.std.proofs.lemmas.Result.{err_from_is_err_and}
use Rattle.graph_format.specs.Layer.{Layer}
use Rattle.question_commands.specs.ReadOpening.{MayOpenAsRead}
use Rattle.question_commands.proofs.asking.open_first.Goals as goal

pub returns-in_err-graph-clause-refused : goal.returns-in_err-graph-clause-refused
returns-in_err-graph-clause-refused g c =
    let handed = err_from_is_err_and c.from_residual.result c.from_residual.ensures.1 in
    let was = c.in_err-graph.ensures in
    rw (handed.1, handed.2) ((was.opens, tt, was.device), tt)

pub returns-in_err-new-clause-refused : goal.returns-in_err-new-clause-refused
returns-in_err-new-clause-refused g c =
    let handed = err_from_is_err_and c.from_residual-in_err-new.result c.from_residual-in_err-new.ensures.1 in
    let was = c.in_ok-graph.ensures in
    rw (handed.1, handed.2)
    (c.in_ok-graph.graph, ((was.opens, was.graph, was.device), was.given), c.in_err-new.ensures.refusal)

pub returns-clause-opened : goal.returns-clause-opened
returns-clause-opened g c =
    let was = c.in_ok-graph.ensures in
    subst (λ (layers : List Layer). MayOpenAsRead (g.T.Folder.tree c.args.folder.now) g.T.Folder.gives c.args.path.now
    (g.T.Folder.failure_count c.args.folder.now) (g.T.Folder.failure_count c.open_in.new.folder) (Ok layers))
    (sym c.in_ok-new.ensures.graph) ((was.opens, was.graph, was.device), was.given)
