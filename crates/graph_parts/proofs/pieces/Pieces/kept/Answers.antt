-- The piece lies in its block, or is kept alone.
use Rattle.graph_parts.proofs.pieces.Pieces.kept.Goals as goal

pub returns-in-Some-clause-some : goal.returns-in-Some-clause-some
returns-in-Some-clause-some c = (c.in-Some.ensures.some.0, c.in-Some.ensures.some.1)
