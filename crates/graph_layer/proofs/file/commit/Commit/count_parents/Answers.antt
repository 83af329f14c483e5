use Rattle.std.proofs.Common.{sym, ◌∙◌, arith}
use Rattle.std.proofs.lemmas.Result.{err_from_is_err_and}
use Rattle.graph_layer.specs.Commit.{commit_parents}
use Rattle.graph_layer.proofs.ParentCountLemmas.{after-next, after-fault, after-end}
use Rattle.graph_layer.proofs.file.commit.Commit.count_parents.Goals as goal

pub returns-in_err-parent : goal.returns-in_err-parent
returns-in_err-parent c =
    let items = rw c.in_err-parent.was at (sym c.in-Some.ensures.steps.steps ∙ c.loop-parent.invariant.left) in
    let fault = after-fault (commit_parents c.args.self.now) c.loop-parent.count _ _ items in
    let h = err_from_is_err_and c.from_residual.result c.from_residual.ensures.1 in rw (h.1, h.2) fault

pub overflow_add-count : goal.overflow_add-count
overflow_add-count c =
    let items = rw c.in_ok-parent.was at (sym c.in-Some.ensures.steps.steps ∙ c.loop-parent.invariant.left) in
    omega (arith, c.requires, (after-next (commit_parents c.args.self.now) c.loop-parent.count _ _ items).within)

pub loop-parent-preserved : goal.loop-parent-preserved
loop-parent-preserved c =
    let items = rw c.in_ok-parent.was at (sym c.in-Some.ensures.steps.steps ∙ c.loop-parent.invariant.left) in
    let next = after-next (commit_parents c.args.self.now) c.loop-parent.count _ _ items in
    record { left = next.left; within = next.within }

pub returns : goal.returns
returns c =
    after-end (commit_parents c.args.self.now) c.loop-parent.count c.loop-parent.invariant.within
    (sym c.in-None.ensures.steps.steps.0 ∙ c.loop-parent.invariant.left)
