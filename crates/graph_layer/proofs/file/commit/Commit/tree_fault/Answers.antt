use Rattle.std.proofs.Common.{refl, ◌∙◌}
use Rattle.graph_layer.specs.Commit.{commit_layer, commit_pos}
use Rattle.graph_layer.proofs.CommitFaultLemmas.{null_tree-at}
use Rattle.graph_layer.proofs.file.commit.Commit.tree_fault.Goals as goal

pub returns-then-is_null : goal.returns-then-is_null
returns-then-is_null c =
    let layer = commit_layer c.args.self.now in let pos = commit_pos c.args.self.now in
    rw (null_tree-at layer pos _ _ c.root_tree_id.ensures c.is_null.ensures ∙ c.if-is_null.true) refl

pub returns-else-is_null : goal.returns-else-is_null
returns-else-is_null c =
    let layer = commit_layer c.args.self.now in let pos = commit_pos c.args.self.now in
    rw (null_tree-at layer pos _ _ c.root_tree_id.ensures c.is_null.ensures ∙ c.if-is_null.false) refl
