-- What is kept so far is what was kept.
use Rattle.std.proofs.Common.{◌+◌, ◌-◌, length}
use Rattle.graph_parts.specs.PieceBlocks.{KeepsSame}
use Rattle.graph_parts.proofs.pieces.Pieces.grow_to.Given as goal

abbrev pub invariant-loop-self : goal.invariant-loop-self
invariant-loop-self l = KeepsSame l.fn.self l.self

abbrev pub decreases-loop-self : goal.decreases-loop-self
decreases-loop-self l = (l.number + 1) - length l.self.blocks.items
