-- The piece lies in its block, or among those that are kept alone.
use Rattle.std.proofs.Common.{arith}
use Rattle.graph_parts.proofs.BlockLemmas.{alone-of, alone-within}
use Rattle.graph_parts.proofs.pieces.Pieces.piece.Goals as goal

pub piece_of_block-requires-clause-kept : goal.piece_of_block-requires-clause-kept
piece_of_block-requires-clause-kept c = rw c.in-InBlock.is at c.requires.kept

pub overflow_add-result : goal.overflow_add-result
overflow_add-result c =
    let at = rw c.in-At.is at c.requires.kept in
    let within = alone-within c.args.self.now at.0 c.args.index c.requires.sized at.1 in
    omega (arith, within, at.2, c.args.self.now.bytes.ok, c.args.self.now.bytes.small)

pub slice_bounds-result-end : goal.slice_bounds-result-end
slice_bounds-result-end c =
    let at = rw c.in-At.is at c.requires.kept in
    let within = alone-within c.args.self.now at.0 c.args.index c.requires.sized at.1 in
    omega (arith, within, at.2, c.deref.ensures.len, c.args.self.now.bytes.ok)

pub returns-in-At-clause-piece : goal.returns-in-At-clause-piece
returns-in-At-clause-piece c = λ file of.
    let at = rw c.in-At.is at c.requires.kept in
    rw (c.deref.ensures.value, at.2) (alone-of c.args.self.now at.0 c.args.index file of at.1)
