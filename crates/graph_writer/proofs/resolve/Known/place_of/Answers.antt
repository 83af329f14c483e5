use Rattle.std.proofs.Common.{◌≡◌, List, ℕ, Some, slice_get, sym, ap, ◌∙◌}
use Rattle.gix_hash_core.specs.Oid.{oid_bytes}
use Rattle.graph_writer.specs.Known.{new_ids_in_order}
use Rattle.graph_writer.proofs.positions.SearchSteps.{known-at}
use Rattle.graph_writer.proofs.resolve.Known.place_of.Given.{Over}
use Rattle.graph_writer.proofs.resolve.Known.place_of.Goals as goal
use Rattle.graph_writer.proofs.resolve.Known.place_of.Goals.{Then-are_one}

-- the id that was looked at is the one
here : (g : Over) (c : Then-are_one g)
    → slice_get (new_ids_in_order c.args.self.now) c.args.guess ≡ Some (oid_bytes c.args.id)
here g c = c.id_at.ensures ∙ ap (λ (id : List ℕ). Some id) (c.are_one.ensures.0 c.if-are_one.true)

pub returns-then-are_one-clause-some : goal.returns-then-are_one-clause-some
returns-then-are_one-clause-some g c = here g c

pub returns-then-are_one-clause-none : goal.returns-then-are_one-clause-none
returns-then-are_one-clause-none g c =
    let k = c.args.self.now in
    sym (known-at k.commits.now k.order.now c.requires.order c.args.guess (oid_bytes c.args.id) (here g c))
