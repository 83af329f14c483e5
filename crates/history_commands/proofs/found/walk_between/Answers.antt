-- The commits on the walk are there.
use Rattle.std.proofs.Common.{refl}
use Rattle.history_commands.proofs.WalkLemmas.{walk_is_within}
use Rattle.history_commands.proofs.found.walk_between.Goals as goal

pub ids_of-requires : goal.ids_of-requires
ids_of-requires c =
    rw c.deref.ensures.value
    (walk_is_within c.args.graph.now.layers c.args.graph.now.layers c.args.from.0 c.args.to.0 c.in_ok-found.found
    c.in-Some.walk refl c.in-Some.is c.num_commits-commits.ensures.graph.opened c.in_ok-found.ensures.walk)
