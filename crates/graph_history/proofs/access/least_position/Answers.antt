use Rattle.std.proofs.Common.{sym, ◌∙◌}
use Rattle.gix_hash_core.specs.Oid.{oid_bytes}
use Rattle.gix_commitgraph.specs.GraphLookup.{position_number}
use Rattle.graph_history.proofs.RightGraphLemmas.{held_within}
use Rattle.graph_history.proofs.access.least_position.Goals as goal

-- the answer is that of a scan
pub returns-clause-scanned : goal.returns-clause-scanned
returns-clause-scanned c =
    c.a_lookup_in_a_right_graph_is_a_scan.ensures c.args.graph.now (oid_bytes c.args.id) (position_number c.lookup.result)
    c.requires c.lookup.ensures.found

pub returns-clause-within : goal.returns-clause-within
returns-clause-within c =
    held_within c.args.graph.now (oid_bytes c.args.id) c.lookup.result
    (c.the_commits_of_layers_add_up.ensures c.args.graph.now) c.lookup.ensures.holds

pub returns-clause-exact : goal.returns-clause-exact
returns-clause-exact c = λ distinct p.
    let scanned = returns-clause-scanned c in
    let exact = c.a_scan_of_distinct_ids_is_exact.ensures c.args.graph.now (oid_bytes c.args.id) p distinct in
    (λ found. exact.0 (sym scanned ∙ found), λ held. scanned ∙ exact.1 held)
