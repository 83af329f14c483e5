use Rattle.std.proofs.Common.{refl, sym, ◌∙◌}
use Rattle.graph_layer.specs.Commit.{commit_layer, commit_pos}
use Rattle.graph_layer.proofs.CommitFaultLemmas.{id_fault-by, null_id-at}
use Rattle.graph_layer.proofs.file.commit.Commit.id_fault.Goals as goal

pub returns-then-is_null : goal.returns-then-is_null
returns-then-is_null c =
    let layer = commit_layer c.args.self.now in let pos = commit_pos c.args.self.now in
    id_fault-by layer pos _ _ (null_id-at layer pos _ _ c.id.ensures c.is_null.ensures ∙ c.if-is_null.true) refl

pub returns-then-is_out_of_order : goal.returns-then-is_out_of_order
returns-then-is_out_of_order c =
    let layer = commit_layer c.args.self.now in let pos = commit_pos c.args.self.now in
    id_fault-by layer pos _ _ (null_id-at layer pos _ _ c.id.ensures c.is_null.ensures ∙ c.if-is_null.false)
    (sym c.is_out_of_order.ensures ∙ c.if-is_out_of_order.true)

pub returns-else-is_out_of_order : goal.returns-else-is_out_of_order
returns-else-is_out_of_order c =
    let layer = commit_layer c.args.self.now in let pos = commit_pos c.args.self.now in
    id_fault-by layer pos _ _ (null_id-at layer pos _ _ c.id.ensures c.is_null.ensures ∙ c.if-is_null.false)
    (sym c.is_out_of_order.ensures ∙ c.if-is_out_of_order.false)
