-- No block is kept in the room that is new.
use Rattle.std.proofs.Common.{refl}
use Rattle.graph_parts.proofs.BlockLemmas.{same-unless}
use Rattle.graph_parts.proofs.pieces.Pieces.grow_to.Goals as goal

pub loop-self-preserved : goal.loop-self-preserved
loop-self-preserved c =
    same-unless c.args.self.now c.loop-self.self (record c.loop-self.self { blocks = c.push.new.self }) _
    c.loop-self.invariant refl refl refl c.push.ensures.items

pub returns-in_err-map_err-clause-same : goal.returns-in_err-map_err-clause-same
returns-in_err-map_err-clause-same c =
    same-unless c.args.self.now c.loop-self.self (record c.loop-self.self { blocks = c.push.new.self }) _
    c.loop-self.invariant refl refl refl c.push.ensures.items
