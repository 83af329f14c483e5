use Rattle.gix_hash_core.specs.Oid.{oid_bytes}
use Rattle.graph_uses.proofs.FindingLemmas.{none-there, only-there}
use Rattle.graph_uses.proofs.finding.only_position.Goals as goal

pub returns-then-options-clause-only : goal.returns-then-options-clause-only
returns-then-options-clause-only c =
    only-there c.args.graph.now.layers (oid_bytes c.args.id) c.find.result
    (c.find.ensures.exact (c.options.ensures.kept.distinct c.if-options.true))

pub returns-then-options-clause-none : goal.returns-then-options-clause-none
returns-then-options-clause-none c =
    let exact = c.find.ensures.exact (c.options.ensures.kept.distinct c.if-options.true) in
    λ none asked. none-there c.args.graph.now.layers (oid_bytes c.args.id) c.find.result exact none
