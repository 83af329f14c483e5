-- The block stands at its number.
use Rattle.std.proofs.Common.{◌<◌, length, sym, arith}
use Rattle.graph_parts.proofs.BlockLemmas.{none-there, some-there}
use Rattle.graph_parts.proofs.pieces.Pieces.block.Goals as goal

pub returns-in-Some-clause-some : goal.returns-in-Some-clause-some
returns-in-Some-clause-some c =
    let within : c.args.number < length c.args.self.now.blocks.items =
    omega (arith, c.if-len-number.false, c.len.ensures, c.args.self.now.blocks.ok) in (
      c.in-Some.block,
      some-there c.args.self.now c.args.number c.index.result.now c.in-Some.block c.index.ensures within c.in-Some.is,
      sym c.deref.ensures.value,
    )

pub returns-in-None-clause-none : goal.returns-in-None-clause-none
returns-in-None-clause-none c =
    let within : c.args.number < length c.args.self.now.blocks.items =
    omega (arith, c.if-len-number.false, c.len.ensures, c.args.self.now.blocks.ok) in
    none-there c.args.self.now c.args.number c.index.result.now c.index.ensures within c.in-None.is
