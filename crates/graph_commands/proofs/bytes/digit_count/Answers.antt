use Rattle.std.proofs.Common.{◌≤◌, length, decimal, arith}
use Rattle.std.proofs.lemmas.Fmt.{length-decimal-le}
use Rattle.itoa.proofs.Decimal.{length_four}
use Rattle.graph_commands.proofs.bytes.digit_count.Goals as goal

pub overflow_add-count : goal.overflow_add-count
overflow_add-count c =
    let most : length (decimal c.args.number) ≤ 20 =
    length-decimal-le 20 c.args.number (omega arith) (omega arith) c.ranges.number.fits in
    omega arith

pub loop-left-preserved : goal.loop-left-preserved
loop-left-preserved c =
    omega (arith, length_four c.loop-left.left c.loop-left-test.true c.loop-left.auto.left-fits.fits)

pub overflow_add-result : goal.overflow_add-result
overflow_add-result c =
    let most : length (decimal c.args.number) ≤ 20 =
    length-decimal-le 20 c.args.number (omega arith) (omega arith) c.ranges.number.fits in
    omega arith

pub returns-clause-most : goal.returns-clause-most
returns-clause-most c = omega (arith, length-decimal-le 20 c.args.number (omega arith) (omega arith) c.ranges.number.fits)
