use Rattle.std.proofs.Common.{arith, ⊎_elim}
use Rattle.hex.proofs.HexLemmas.{decode_of-ok}
use Rattle.commit_objects.proofs.hex_id.HexId.decode.Goals as goal

pub decoded-requires : goal.decoded-requires
decoded-requires c =
    let spells = c.self.invariant.1 in (
      omega arith,
      (c.in-40.is, (decode_of-ok c.self.inside.digits.now c.self.invariant.0 spells.1).1),
    )

pub decoded-requires-in_default : goal.decoded-requires-in_default
decoded-requires-in_default c =
    let spells = c.self.invariant.1 in (
      omega arith,
      (
        ⊎_elim (λ forty. absurd (omega (arith, forty))) (λ sized. sized) spells.0,
        (decode_of-ok c.self.inside.digits.now c.self.invariant.0 spells.1).1,
      ),
    )
