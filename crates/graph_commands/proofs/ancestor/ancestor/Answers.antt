use Rattle.std.proofs.Common.{inr, refl, ◌≡◌}
use Rattle.std.proofs.lemmas.Result.{err_from_is_err_and}
use Rattle.graph_commands.specs.OpenerAnswer.{MayOpen}
use Rattle.graph_commands.proofs.AncestorAnswers.{relates}
use Rattle.graph_commands.proofs.ancestor.ancestor.Goals as goal

pub returns-in_err-second-clause-may : goal.returns-in_err-second-clause-may
returns-in_err-second-clause-may g c =
    let answered = err_from_is_err_and c.from_residual-in_err-second.result c.from_residual-in_err-second.ensures.1 in
    let first = rw c.as_bytes.ensures.value at c.in_ok-first.ensures.ok in
    let second = rw c.as_bytes-2.ensures.value at c.in_err-second.ensures.err in
    rw (answered.1, answered.2) (inr (c.in_ok-first.first, first, second), refl)

pub returns-clause-may : goal.returns-clause-may
returns-clause-may g c =
    let first = rw c.as_bytes.ensures.value at c.in_ok-first.ensures.ok in
    let second = rw c.as_bytes-2.ensures.value at c.in_ok-second.ensures.ok in
    let answers = rw (c.as_oid.ensures, c.as_oid-2.ensures) at c.ancestry_in.ensures in
    let opened = c.in_ok-graph.ensures in
    relates c.args.first.now c.args.second.now c.in_ok-first.first c.in_ok-second.second
    (c.open_in.new.folder ≡ c.args.folder.now)
    (MayOpen (g.T.Folder.tree c.args.folder.now) c.args.path.now (g.T.Folder.failure_count c.args.folder.now)
    (g.T.Folder.failure_count c.open_in.new.folder))
    c.in_ok-graph.graph c.ancestry_in.result first second (opened.opens, opened.graph, opened.device) answers
