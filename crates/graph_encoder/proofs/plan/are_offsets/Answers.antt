use Rattle.std.proofs.Common.{arith}
use Rattle.std.proofs.lemmas.List.{get_or_default}
use Rattle.graph_encoder.proofs.plan.are_offsets.Goals as goal

pub returns : goal.returns
returns c = (
  λ same. record {
    count = grind (arith, same);
    fit = λ k d i. omega (arith, get_or_default c.args.offsets.now k d 0 i, c.type_inv.offsets k);
  },
  λ offsets. grind (arith, offsets.count),
)
