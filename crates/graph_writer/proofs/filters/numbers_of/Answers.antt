use Rattle.std.proofs.Common.{arith}
use Rattle.graph_writer.proofs.plans.ThreeNumbers.{three-fit}
use Rattle.graph_writer.proofs.filters.numbers_of.Goals as goal

pub returns-clause-fit : goal.returns-clause-fit
returns-clause-fit c =
    three-fit c.args.version c.args.hashes c.args.bits_per_entry (omega (arith, c.ranges.version))
    (omega (arith, c.ranges.hashes)) (omega (arith, c.ranges.bits_per_entry))
