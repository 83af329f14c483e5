use Rattle.std.proofs.Common.{Some, None, take}
use Rattle.gix_hash_core.specs.Oid.{oid_bytes}
use Rattle.gix_commitgraph.proofs.layers.GraphLemmas.{scanned}
use Rattle.gix_commitgraph.proofs.graph.Graph.find_below.Goals as goal

pub returns-in_err-found : goal.returns-in_err-found
returns-in_err-found c =
    rw c.from_residual.ensures
    (scanned (take c.args.layer c.args.self.now) c.requires.below (oid_bytes c.args.id) None c.in_err-found.ensures.found)

pub returns : goal.returns
returns c =
    scanned (take c.args.layer c.args.self.now) c.requires.below (oid_bytes c.args.id) (Some _) c.in_ok-found.ensures.found
