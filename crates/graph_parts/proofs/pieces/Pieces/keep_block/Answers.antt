-- A block is put where none is kept.
use Rattle.std.proofs.Common.{refl}
use Rattle.graph_parts.proofs.BlockLemmas.{adds-block, block-kept, block-sized, same-sized}
use Rattle.graph_parts.proofs.pieces.Pieces.keep_block.Goals as goal

pub returns-in_err-grow_to-clause-sized : goal.returns-in_err-grow_to-clause-sized
returns-in_err-grow_to-clause-sized c =
    same-sized c.args.self.now c.grow_to.new.self c.grow_to.ensures.same c.requires.sized

pub returns-clause-adds : goal.returns-clause-adds
returns-clause-adds c =
    adds-block c.args.self.now c.grow_to.new.self _ c.args.number c.args.block c.grow_to.ensures.same
    c.in_ok-grow_to.ensures.room c.requires.new refl refl refl refl

pub returns-clause-kept : goal.returns-clause-kept
returns-clause-kept c = λ index at.
    block-kept c.grow_to.new.self.blocks.items c.args.number index c.args.block c.in_ok-grow_to.ensures.room at

pub returns-clause-sized : goal.returns-clause-sized
returns-clause-sized c =
    block-sized c.args.self.now c.grow_to.new.self _ c.args.number c.args.block c.grow_to.ensures.same
    c.in_ok-grow_to.ensures.room c.requires.new refl refl refl refl c.requires.sized c.requires.long
