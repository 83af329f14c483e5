use Rattle.std.proofs.Common.{None, Some, refl, sym, ◌∙◌}
use Rattle.graph_layer.specs.Commit.{commit_layer, commit_pos}
use Rattle.graph_layer.proofs.CommitFaultLemmas.{commit_fault-by}
use Rattle.graph_layer.proofs.file.commit.Commit.fault.Goals as goal

pub returns-in-Some : goal.returns-in-Some
returns-in-Some c =
    commit_fault-by (commit_layer c.args.self.now) (commit_pos c.args.self.now) (Some c.in-Some.fault) _
    (sym c.in-Some.is ∙ c.id_fault.ensures) refl

pub returns-in-None : goal.returns-in-None
returns-in-None c =
    commit_fault-by (commit_layer c.args.self.now) (commit_pos c.args.self.now) None _ (sym c.in-None.is ∙ c.id_fault.ensures)
    c.tree_fault.ensures
