use Rattle.std.proofs.Common.{◌∙◌, arith}
use Rattle.graph_layer.proofs.BucketLemmas.{view-fan, view-fan-below, view-fan-rises}
use Rattle.graph_layer.proofs.file.File.fan_number.Goals as goal

pub returns-clause-number : goal.returns-clause-number
returns-clause-number c = c.fan_at.ensures ∙ rw c.as_slice.ensures (view-fan _ _ _ _ c.shared-shared.ensures.layer)

pub returns-clause-rises : goal.returns-clause-rises
returns-clause-rises c some =
    omega (
      arith,
      returns-clause-number c,
      view-fan-rises _ _ _ _ c.args.byte c.shared-shared.ensures.layout c.shared-shared.ensures.layer some
          (omega arith),
    )

pub returns-clause-within : goal.returns-clause-within
returns-clause-within c =
    omega (
      arith,
      returns-clause-number c,
      view-fan-below _ _ _ _ c.args.byte c.shared-shared.ensures.layout c.shared-shared.ensures.layer
          (omega arith),
    )
