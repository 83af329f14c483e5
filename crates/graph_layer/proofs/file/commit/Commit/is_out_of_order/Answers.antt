use Rattle.std.proofs.Common.{ap, ◌∙◌, arith}
use Rattle.std.specs.Ordering.{is_ge}
use Rattle.graph_layer.proofs.CommitFaultLemmas.{out_of_order-at}
use Rattle.graph_layer.proofs.file.commit.Commit.is_out_of_order.Goals as goal

pub returns : goal.returns
returns c =
    c.is_ge.ensures ∙ ap is_ge c.compare_ids.ensures
    ∙ out_of_order-at c.args.self.now.file.now c.args.self.now.pos.0 _ _ (omega (arith, c.if-self-eq0.false))
    c.id_bytes_at-before.ensures.id c.id_bytes_at-id.ensures.id
