use Rattle.std.proofs.Common.{length, arith}
use Rattle.gix_hash_core.specs.Oid.{oid_bytes}
use Rattle.graph_writer.specs.Known.{layers_below, new_ids_in_order}
use Rattle.graph_writer.proofs.positions.FirstSteps.{new-first, below-first}
use Rattle.graph_writer.proofs.positions.KnownSteps.{below-bound}
use Rattle.graph_writer.proofs.positions.SearchSteps.{place-within}
use Rattle.graph_writer.proofs.resolve.Known.position_of.Goals as goal

pub returns-in-Some-clause-within : goal.returns-in-Some-clause-within
returns-in-Some-clause-within g c =
    let k = c.args.self.now in
    omega (
      arith,
      place-within k.commits.now k.order.now c.in-Some.place (oid_bytes c.args.id) c.requires.order c.in-Some.ensures.some,
    )

pub returns-in-Some-clause-first : goal.returns-in-Some-clause-first
returns-in-Some-clause-first g c =
    let k = c.args.self.now in
    new-first (layers_below k) k.commits.now k.order.now k.start c.in-Some.place (oid_bytes c.args.id) c.requires.start
    c.requires.order c.requires.fresh c.in-Some.ensures.some

pub returns-in-None-clause-within : goal.returns-in-None-clause-within
returns-in-None-clause-within g c =
    let k = c.args.self.now in
    below-bound (layers_below k) (oid_bytes c.args.id) k.start (length k.commits.now) c.position_below.result c.requires.start
    c.position_below.ensures

pub returns-in-None-clause-first : goal.returns-in-None-clause-first
returns-in-None-clause-first g c =
    let k = c.args.self.now in
    below-first (layers_below k) (new_ids_in_order k) (oid_bytes c.args.id) c.position_below.result c.position_below.ensures
