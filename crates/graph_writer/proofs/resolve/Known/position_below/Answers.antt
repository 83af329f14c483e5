use Rattle.std.proofs.Common.{◌∙◌}
use Rattle.gix_hash_core.specs.Oid.{oid_bytes}
use Rattle.graph_writer.proofs.positions.KnownSteps.{none-below}
use Rattle.graph_writer.proofs.resolve.Known.position_below.Goals as goal

pub returns-in_err-graph : goal.returns-in_err-graph
returns-in_err-graph g c =
    c.from_residual.ensures ∙ none-below (λ graph. graph.now.layers) c.args.self.now.below (oid_bytes c.args.id)
    (c.in_err-graph.was {u = tt})
