-- The piece lies in its block.
use Rattle.std.proofs.Common.{◌/◌, List, ℕ, ap, arith, length}
use Rattle.graph_parts.specs.declared.pieces.Stretch.TheVariants.{Block}
use Rattle.graph_parts.proofs.BlockLemmas.{piece-fits, piece-of}
use Rattle.graph_parts.proofs.pieces.Pieces.piece_of_block.Goals as goal

pub overflow_mul-start : goal.overflow_mul-start
overflow_mul-start c =
    let kept = c.requires.kept in
    let long = c.requires.sized.blocks (c.args.index / 128) kept.0 kept.1 in
    omega (arith, piece-fits c.args.self.now.series c.args.index c.requires.index, long, kept.0.ok, kept.0.small)

pub overflow_add-result : goal.overflow_add-result
overflow_add-result c =
    let kept = c.requires.kept in
    let long = c.requires.sized.blocks (c.args.index / 128) kept.0 kept.1 in
    omega (arith, piece-fits c.args.self.now.series c.args.index c.requires.index, long, kept.0.ok, kept.0.small)

pub slice_bounds-result-end : goal.slice_bounds-result-end
slice_bounds-result-end c =
    let kept = c.in-Some.ensures.some in
    let long = c.requires.sized.blocks (c.args.index / 128) kept.0 kept.1 in
    omega (
      arith,
      piece-fits c.args.self.now.series c.args.index c.requires.index,
      long,
      ap (λ (xs : List ℕ). length xs) kept.2,
    )

pub returns-clause-piece : goal.returns-clause-piece
returns-clause-piece c = λ file of.
    let kept = c.in-Some.ensures.some in
    piece-of c.args.self.now file c.in-Some.block.now c.args.index c.requires.index
    (of (Block (c.args.index / 128)) _ kept)

pub unreachable-requires : goal.unreachable-requires
unreachable-requires c =
    let none = rw c.in-None.is at c.block.ensures.none in
    none c.requires.kept.0 c.requires.kept.1
