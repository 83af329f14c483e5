-- The piece stands at its place among those that are kept alone.
use Rattle.std.proofs.Common.{◌∙◌, arith, refl}
use Rattle.graph_parts.proofs.BlockLemmas.{alone-within, found-alone}
use Rattle.graph_parts.proofs.pieces.Pieces.kept_alone.Goals as goal

pub overflow_mul-result : goal.overflow_mul-result
overflow_mul-result c =
    let alone = c.args.self.now.alone in
    let at = found-alone alone c.in-Some.place c.in-Ok.number c.in-Some.ensures.within c.in-Some.ensures.some in
    let within = alone-within c.args.self.now c.in-Some.place c.in-Ok.number c.requires at in
    omega (arith, within, c.args.self.now.bytes.ok, c.args.self.now.bytes.small)

pub returns-in-Some : goal.returns-in-Some
returns-in-Some c =
    let alone = c.args.self.now.alone in (
      c.in-Some.place,
      found-alone alone c.in-Some.place c.args.index c.in-Some.ensures.within
          (c.in-Some.ensures.some ∙ c.in-Ok.ensures.1),
      refl,
    )
