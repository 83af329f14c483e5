use Rattle.std.proofs.Common.{ap, arith}
use Rattle.std.proofs.lemmas.Option.{IfSome_then, slice_get_within}
use Rattle.gix_hash_core.specs.Oid.{oid_bytes}
use Rattle.gix_commitgraph.specs.Graph.{graph_ids, total}
use Rattle.newer_commits.proofs.graph.InMemoryBase.position_of.Goals as goal

-- a position that holds an id is one of the graph
pub returns-clause-within : goal.returns-clause-within
returns-clause-within c =
    IfSome_then c.lookup.result c.lookup.ensures.holds (λ pos at.
    let there = slice_get_within (graph_ids c.graph.result.now) pos.0 (oid_bytes c.args.id) at in
    let many = (c.the_commits_of_layers_add_up.ensures c.graph.result.now).ids in
    let same = ap total c.graph.ensures.same in
    omega (arith, there, many, same))
