-- The stretch is a block, or a piece alone.
use Rattle.std.proofs.Common.{arith, length, ap}
use Rattle.graph_parts.proofs.BlockLemmas.{kept-alone}
use Rattle.graph_parts.proofs.pieces.Pieces.keep.Goals as goal

pub keep_block-requires-clause-new : goal.keep_block-requires-clause-new
keep_block-requires-clause-new c = rw c.in-Block.is at c.requires.new

pub keep_block-requires-clause-long : goal.keep_block-requires-clause-long
keep_block-requires-clause-long c = rw c.in-Block.is at c.requires.long

pub keep_alone-requires-clause-long : goal.keep_alone-requires-clause-long
keep_alone-requires-clause-long c =
    let long = rw c.in-Alone.is at c.requires.long in omega (arith, long, ap length c.deref.ensures.value)

pub returns-in-Alone-clause-kept : goal.returns-in-Alone-clause-kept
returns-in-Alone-clause-kept c =
    kept-alone c.keep_alone.new.self c.args.stretch c.in-Alone.index c.keep_alone.result c.in-Alone.is c.keep_alone.ensures.kept
