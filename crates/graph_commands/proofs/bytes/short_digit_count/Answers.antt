use Rattle.std.proofs.Common.{◌/◌, arith}
use Rattle.itoa.proofs.Decimal.{length_one, length_two, length_pair}
use Rattle.graph_commands.proofs.bytes.short_digit_count.Goals as goal

pub returns-in-0-to-9 : goal.returns-in-0-to-9
returns-in-0-to-9 c = omega (arith, length_one c.args.number (omega arith))

pub returns-in-10-to-99 : goal.returns-in-10-to-99
returns-in-10-to-99 c = omega (arith, length_two c.args.number (omega arith) (omega arith))

pub returns-in-100-to-999 : goal.returns-in-100-to-999
returns-in-100-to-999 c =
    let n = c.args.number in
    omega (arith, length_pair n (omega arith) (omega arith), length_one (n / 100) (omega arith))

pub returns-in_default : goal.returns-in_default
returns-in_default c =
    let n = c.args.number in
    omega (arith, length_pair n (omega arith) (omega arith), length_two (n / 100) (omega arith) (omega arith))
