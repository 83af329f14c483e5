-- As many bytes are read as the stretch has.
use Rattle.graph_parts.proofs.pieces.Series.read_stretch.Goals as goal

pub returns-clause-part : goal.returns-clause-part
returns-clause-part g c = λ tree is.
    rw (← c.first_of-first.ensures, ← c.pieces_in-count.ensures.count) (c.read_range.ensures.part tree is)

pub returns-clause-given : goal.returns-clause-given
returns-clause-given g c = rw (← c.first_of-first.ensures) c.read_range.ensures.given
