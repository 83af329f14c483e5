-- The integers lie one after another in the chunk.
use Rattle.graph_parts.proofs.OffsetLemmas.{integers-lie}
use Rattle.graph_parts.proofs.offsets.integers_in.Goals as goal

pub returns-in-Some : goal.returns-in-Some
returns-in-Some c =
    integers-lie c.args.head.now c.args.id c.args.size c.in-Some.chunk c.requires.size c.in-Some.ensures.order
    c.in-Some.ensures.place
