use Rattle.std.proofs.Common.{ℕ, get_or}
use Rattle.std.proofs.lemmas.Option.{slice_get-get_or}
use Rattle.gix_hash_core.specs.Oid.{oid_bytes}
use Rattle.graph_writer.proofs.positions.HandedSteps.{said-at}
use Rattle.graph_writer.proofs.positions.MixedSteps.{id-in_order}
use Rattle.graph_writer.proofs.resolve.Known.id_at.Goals as goal

pub at-commit-requires : goal.at-commit-requires
at-commit-requires g c = c.requires.known.order.mixed.each c.args.place 0 c.requires.place

pub returns : goal.returns
returns g c =
    let k = c.args.self.now in
    let i : ℕ = get_or k.order.now c.args.place 0 in
    id-in_order k.commits.now k.order.now c.args.place i (oid_bytes c.id.result)
    (slice_get-get_or k.order.now c.args.place 0 c.requires.place)
    (said-at k.commits.now i c.at-commit.result (oid_bytes c.id.result) c.at-commit.ensures c.id.ensures)
